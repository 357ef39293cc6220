-- The laws of segment 255.
use Rattle.spur_loader.proofs.SegmentFacts.{table_segment_is_named, none_names_table_segment}
use Rattle.spur_loader.proofs.laws.table_segment_is_named.Goals as goal

pub returns-clause-named : goal.returns-clause-named
returns-clause-named c = table_segment_is_named

pub returns-clause-none : goal.returns-clause-none
returns-clause-none c = none_names_table_segment

use Rattle.spur_plain.proofs.NeedFacts.{clean-pages-are-needed}
use Rattle.spur_plain.proofs.paging_needs_clean_pages.Goals as goal

pub returns : goal.returns
returns c = clean-pages-are-needed

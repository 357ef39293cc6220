use Rattle.std.proofs.Common.{◌+◌, ◌-◌, sym, arith}
use Rattle.std.proofs.lemmas.Slice.{put_mid-paste}
use Rattle.spur_phys.proofs.phys.put_page.Goals as goal

pub returns : goal.returns
returns c = put_mid-paste c.args.place (c.args.place + 1024 - c.args.place) c.args.memory.now c.copy_from_slice.new.self c.args.words.now 1024 c.copy_from_slice.ensures.after (omega arith) (sym c.told-words)

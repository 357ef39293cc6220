use Rattle.std.proofs.Common.{◌+◌, ◌-◌, sym, arith}
use Rattle.std.proofs.lemmas.Slice.{put_mid-paste}
use Rattle.spur_swap.proofs.pages.put.Goals as goal

pub returns : goal.returns
returns c = put_mid-paste c.args.at (c.args.at + 1024 - c.args.at) c.args.words.now c.copy_from_slice.new.self c.args.page.now 1024 c.copy_from_slice.ensures.after (omega arith) (sym c.told-page)

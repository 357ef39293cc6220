-- Zeros are a root table of which nothing is written yet.
use Rattle.std.proofs.Common.{◌≡◌, ◌+◌, ◌*◌, ℕ, length, subst, arith}
use Rattle.spur_loader.specs.Parts.{AreZeros}
use Rattle.spur_loader.proofs.ListFacts.{apart_ascending}
use Rattle.spur_loader.proofs.RootTableFacts.{roots_begin}
use Rattle.spur_loader.proofs.tables.root_table.Goals as goal

pub loop-table-init : goal.loop-table-init
loop-table-init c =
    let count : c.entry_frame-count.result * 1024 ≡ 1024 * (64 + length c.args.roots.now) = (let f : c.entry_frame-count.result ≡ 64 + length c.args.roots.now = c.entry_frame-count.ensures in omega arith) in
    roots_begin c.args.roots.now c.in_ok-words.words.items (apart_ascending c.args.roots.now c.requires.ascending)
    (subst (λ (n : ℕ). AreZeros n c.in_ok-words.words.items) count c.in_ok-words.ensures)

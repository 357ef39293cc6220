-- The parts are the definition's.
use Rattle.std.proofs.Common.{◌≡◌, ◌+◌, ◌*◌, ◌∙◌, ap, length, rules, arith}
use Rattle.std.specs.Vec.{vec_len}
use Rattle.spur_loader.specs.Opening.{page_numbers}
use Rattle.spur_loader.proofs.ReadingFacts.{flat_is, grown_is, memory_is, swap_is}
use Rattle.spur_loader.proofs.RootFacts.{roots_same}
use Rattle.spur_loader.proofs.loading.flat.Goals as goal

pub returns : goal.returns
returns c =
    let len : vec_len c.args.memory ≡ length c.args.memory.items = search rules in
    let size : c.len.result + c.args.options.now.frames * 1024 ≡ vec_len c.args.memory + 1024 * c.args.options.now.frames =
    (let l : c.len.result ≡ vec_len c.args.memory = c.len.ensures in omega arith) in
    let whole : c.from_vec.result ≡ c.resize.new.self.items = search rules in
    let kept : c.from_vec-2.result ≡ c.args.swap.items = search rules in
    flat_is c.args.unit.now c.args.options.now c.from_vec.result c.from_vec-2.result c.from_vec-3.result (length c.args.roots.now)
    (whole ∙ grown_is c.args.memory.items c.resize.new.self.items (vec_len c.args.memory) (c.len.result + c.args.options.now.frames * 1024)
    (1024 * c.args.options.now.frames) len size c.in_ok-resize.ensures.items
    ∙ memory_is c.args.unit.now c.args.options.now c.args.roots.now c.args.memory.items c.requires.pages c.requires.needed c.requires.tables)
    (kept ∙ swap_is c.args.unit.now c.args.swap.items c.requires.swap)
    (c.from_vec-3.ensures ∙ c.in_ok-numbers.ensures ∙ ap page_numbers c.as_slice.ensures)
    (ap length (roots_same c.args.unit.now.pages c.args.roots.now c.requires.pages c.requires.needed))

use Rattle.std.proofs.Common.{◌<◌, ◌++◌, ◌∷◌, ◌∙◌, [], ℕ, ap, refl, subst, sym}
use Rattle.std.proofs.lemmas.List.{length-map}
use Rattle.spur_addr.specs.Address.{block_start_of}
use Rattle.spur_flat.specs.declared.entry.Entry.{Entry}
use Rattle.spur_flat.specs.declared.entry.Entry.TheVariants.{BlockFlush}
use Rattle.spur_bus.specs.Calls.{MovesTags}
use Rattle.spur_pager.specs.View.{View, seen}
use Rattle.spur_pager.proofs.DropFacts.{IsDropped, drops}
use Rattle.spur_pager.proofs.flush.flush_block.Goals as goal

pub returns-clause-drops : goal.returns-clause-drops
returns-clause-drops g c =
    let lines_of = g.T.HasCache.lens.lines_of in
    let w : View = seen g.B.Backing.meaning g.T.HasCache.lens c.args.boards.now c.args.store.now in
    let v : View = seen g.B.Backing.meaning g.T.HasCache.lens c.block_flush-entry.new.boards
    (record { phys = c.block_flush-entry.new.phys; frames = c.args.store.now.frames; backing = c.args.store.now.backing; history = c.append.new.self; ahead = c.args.store.now.ahead }) in
    let own = subst (λ (n : ℕ). c.args.b < n) (sym (length-map c.args.boards.now lines_of)) c.requires.own in
    let within = subst (λ (n : ℕ). c.args.holder < n) (sym (length-map c.args.boards.now lines_of)) c.requires.holder in
    let e = c.block_flush-entry.ensures.entry in
    let d : IsDropped c.args.holder c.args.at w v (BlockFlush c.args.b c.args.holder (block_start_of c.args.at)) = record {
      caches = c.block_flush-entry.ensures.change;
      memory = c.block_flush-entry.ensures.memory;
      agree = c.block_flush-entry.ensures.agree;
      serves = c.block_flush-entry.ensures.serves;
      logical = c.block_flush-entry.ensures.logical;
      lines = c.block_flush-entry.ensures.lines;
      size = c.block_flush-entry.ensures.size;
      tags = subst (λ (x : Entry). MovesTags w.caches v.caches x) e c.block_flush-entry.ensures.tags;
      frames = refl;
      pages = refl;
      slots = refl;
      ahead = refl;
    } in
    drops c.args.b c.args.holder c.args.at w v own within c.requires.there c.requires.leaving d (c.append.ensures.entry ∙ ap (λ (x : Entry). w.history ++ x ∷ []) e) c.append.ensures.room

use Rattle.std.proofs.Common.{◌∙◌, ℕ, Bool, true, false, ◌≡◌, ap, map, refl, subst, sym}
use Rattle.spur_addr.specs.PageEntry.{is_dirty}
use Rattle.spur_flat.specs.Pager.{word_of}
use Rattle.spur_frames.specs.Frames.{IsTaken, release_frame}
use Rattle.spur_addr.specs.Pages.{page_at}
use Rattle.spur_walk.specs.Present.{MayWalk}
use Rattle.spur_walk.specs.Tables.{logical_flat}
use Rattle.spur_pager.specs.declared.change.Change.TheVariants.{Out}
use Rattle.spur_pager.specs.Changes.{Changes}
use Rattle.spur_pager.specs.Drops.{IsUnheld}
use Rattle.spur_pager.specs.Served.{hold_of}
use Rattle.spur_addr.specs.Address.{page_address}
use Rattle.spur_pager.specs.Stand.{entry_in}
use Rattle.spur_pager.specs.View.{View, seen}
use Rattle.spur_bus.proofs.LensFacts.{only_lines-same}
use Rattle.spur_pager.proofs.CountFacts.{counts_unwritten, counts_wrote}
use Rattle.spur_pager.proofs.MoveFacts.{out_may}
use Rattle.spur_pager.proofs.OutFacts.{frame_within, goes_out, slot_small, slot_within, taken, told_if}
use Rattle.spur_pager.proofs.RunFacts.{past_of}
use Rattle.spur_pager.proofs.put.put_out.Goals.{then-dirty+in_ok-save_page, else-dirty}
use Rattle.spur_pager.proofs.put.put_out.Goals as goal

pub save_page-requires-clause-frame : goal.save_page-requires-clause-frame
save_page-requires-clause-frame g c =
    let w : View = seen g.B.Backing.meaning g.T.HasCache.lens c.args.boards.now c.args.store.now in
    frame_within w c.args.b c.args.frame c.args.page c.args.slot c.requires.may c.requires.stands.rest c.requires.stands.stands

pub save_page-requires-clause-slot : goal.save_page-requires-clause-slot
save_page-requires-clause-slot g c =
    let w : View = seen g.B.Backing.meaning g.T.HasCache.lens c.args.boards.now c.args.store.now in
    slot_within w c.args.b c.args.frame c.args.page c.args.slot c.requires.may c.requires.stands.rest c.requires.stands.stands

pub returns-in_err-save_page-clause-lens : goal.returns-in_err-save_page-clause-lens
returns-in_err-save_page-clause-lens g c =
    only_lines-same g.T.HasCache.lens g.met.T.HasCache.lawful c.args.boards.now

pub change_entry-requires-clause-walk : goal.change_entry-requires-clause-walk
change_entry-requires-clause-walk g c =
    let caches = map g.T.HasCache.lens.lines_of c.args.boards.now in
    elim c.if-dirty.branch [
      | then-dirty+in_ok-save_page x ↦ subst (λ s. MayWalk caches s.phys) (sym x.store-is) c.requires.stands.stands.walk
      | else-dirty x ↦ subst (λ s. MayWalk caches s.phys) (sym x.store-is) c.requires.stands.stands.walk
    ]

pub change_entry-requires-clause-small : goal.change_entry-requires-clause-small
change_entry-requires-clause-small g c =
    let w : View = seen g.B.Backing.meaning g.T.HasCache.lens c.args.boards.now c.args.store.now in
    slot_small w c.args.b c.args.frame c.args.page c.args.slot c.requires.may c.requires.stands.rest c.requires.stands.stands

pub change_entry-requires-clause-may : goal.change_entry-requires-clause-may
change_entry-requires-clause-may g c =
    let w : View = seen g.B.Backing.meaning g.T.HasCache.lens c.args.boards.now c.args.store.now in
    let unheld = subst (λ (n : ℕ). IsUnheld (hold_of w) n) (sym c.page_address-at.ensures) c.requires.may.unheld in
    out_may c.args.b c.page_address-at.result c.args.slot (record { caches = w.caches; memory = c.if-dirty.store.phys }) (record { none = unheld.none })

pub release-requires : goal.release-requires
release-requires g c =
    let w : View = seen g.B.Backing.meaning g.T.HasCache.lens c.args.boards.now c.args.store.now in
    let is_taken = taken w c.args.b c.args.frame c.args.page c.args.slot c.requires.may in
    elim c.if-dirty.branch [
      | then-dirty+in_ok-save_page x ↦ record { taken = subst (λ s. IsTaken s.frames c.args.frame) (sym x.store-is) is_taken }
      | else-dirty x ↦ record { taken = subst (λ s. IsTaken s.frames c.args.frame) (sym x.store-is) is_taken }
    ]

pub returns-clause-out : goal.returns-clause-out
returns-clause-out g c =
    let lines_of = g.T.HasCache.lens.lines_of in
    let w : View = seen g.B.Backing.meaning g.T.HasCache.lens c.args.boards.now c.args.store.now in
    let v : View = seen g.B.Backing.meaning g.T.HasCache.lens c.change_entry.new.boards
    (record { phys = c.change_entry.new.phys; frames = c.release.new.self; backing = c.if-dirty.store.backing; history = c.change_entry.new.history; ahead = c.if-dirty.store.ahead }) in
    let b : ℕ = c.args.b in
    let frame : ℕ = c.args.frame in
    let page : ℕ = c.args.page in
    let slot : ℕ = c.args.slot in
    let word = c.standing_entry.ensures ∙ ap (λ (n : ℕ). word_of (logical_flat w.caches w.memory) n) c.page_address-at.ensures in
    let changes = subst (λ (n : ℕ). Changes b n (Out slot) (record { caches = w.caches; memory = c.if-dirty.store.phys }) c.if-dirty.store.history (hold_of v) (past_of v)) c.page_address-at.ensures c.change_entry.ensures.changes in
    let put = page_at w.memory frame in
    elim c.if-dirty.branch [
      | then-dirty+in_ok-save_page x ↦
          goes_out w b frame page slot c.requires.may v
          (record {
            pages = ap (λ s. (g.B.Backing.meaning s.backing).pages) x.store-is ∙ x.in_ok-save_page.ensures.put ∙ ap (λ (d : Bool). told_if d w.pages slot put) (x.if-dirty.ensures ∙ ap (λ (e : ℕ). is_dirty e) word);
            slots = ap (λ s. (g.B.Backing.meaning s.backing).slots) x.store-is ∙ ap (λ s. s.slots) x.in_ok-save_page.ensures.stays;
            ahead = ap (λ s. s.ahead) x.store-is;
            frames = c.release.ensures.released ∙ ap (λ s. release_frame s.frames frame) x.store-is;
          })
          (subst (λ s. Changes b (page_address page) (Out slot) (record { caches = w.caches; memory = s.phys }) s.history (hold_of v) (past_of v)) x.store-is changes)
          c.requires.stands.rest c.requires.stands.stands
      | else-dirty x ↦
          goes_out w b frame page slot c.requires.may v
          (record {
            pages = ap (λ s. (g.B.Backing.meaning s.backing).pages) x.store-is ∙ ap (λ (d : Bool). told_if d w.pages slot put) (x.if-dirty.ensures ∙ ap (λ (e : ℕ). is_dirty e) word);
            slots = ap (λ s. (g.B.Backing.meaning s.backing).slots) x.store-is;
            ahead = ap (λ s. s.ahead) x.store-is;
            frames = c.release.ensures.released ∙ ap (λ s. release_frame s.frames frame) x.store-is;
          })
          (subst (λ s. Changes b (page_address page) (Out slot) (record { caches = w.caches; memory = s.phys }) s.history (hold_of v) (past_of v)) x.store-is changes)
          c.requires.stands.rest c.requires.stands.stands
    ]

pub returns-clause-unwritten : goal.returns-clause-unwritten
returns-clause-unwritten g c clean =
    elim c.if-dirty.branch [
      | then-dirty+in_ok-save_page x ↦ absurd (both_ways c.dirty.result x.if-dirty.true
          (c.dirty.ensures ∙ ap (λ (e : ℕ). is_dirty e) (c.standing_entry.ensures ∙ ap (λ (n : ℕ). word_of (logical_flat (map g.T.HasCache.lens.lines_of c.args.boards.now) c.args.store.now.phys) n) c.page_address-at.ensures) ∙ clean))
      | else-dirty x ↦ ap (λ s. s.backing) x.store-is
    ]
  where
    both_ways : (b : Bool) → b ≡ true → b ≡ false → ⊥
    both_ways true h k = cc
    both_ways false h k = cc

pub returns-in_err-save_page-clause-counts : goal.returns-in_err-save_page-clause-counts
returns-in_err-save_page-clause-counts g c =
    let w : View = seen g.B.Backing.meaning g.T.HasCache.lens c.args.boards.now c.args.store.now in
    let word = c.standing_entry.ensures ∙ ap (λ (n : ℕ). word_of (logical_flat w.caches w.memory) n) c.page_address-at.ensures in
    let known = sym (c.dirty.ensures ∙ ap (λ (e : ℕ). is_dirty e) word) ∙ c.if-dirty.true in
    counts_wrote g.B.Backing.meaning g.T.HasCache.lens c.args.boards.now c.args.boards.now c.args.store.now
    (record c.args.store.now { backing = c.save_page.new.backing }) (is_dirty (entry_in w c.args.page)) known refl c.save_page.ensures.stays c.save_page.ensures.later

pub returns-clause-counts : goal.returns-clause-counts
returns-clause-counts g c =
    let w : View = seen g.B.Backing.meaning g.T.HasCache.lens c.args.boards.now c.args.store.now in
    let word = c.standing_entry.ensures ∙ ap (λ (n : ℕ). word_of (logical_flat w.caches w.memory) n) c.page_address-at.ensures in
    let known = sym (c.dirty.ensures ∙ ap (λ (e : ℕ). is_dirty e) word) in
    elim c.if-dirty.branch [
      | then-dirty+in_ok-save_page x ↦
          counts_wrote g.B.Backing.meaning g.T.HasCache.lens c.args.boards.now c.change_entry.new.boards c.args.store.now (record { phys = c.change_entry.new.phys; frames = c.release.new.self; backing = c.if-dirty.store.backing; history = c.change_entry.new.history; ahead = c.if-dirty.store.ahead }) (is_dirty (entry_in w c.args.page))
          (known ∙ x.if-dirty.true) (ap (λ s. s.backing) x.store-is) x.in_ok-save_page.ensures.stays x.in_ok-save_page.ensures.later
      | else-dirty x ↦
          counts_unwritten g.B.Backing.meaning g.T.HasCache.lens c.args.boards.now c.change_entry.new.boards c.args.store.now (record { phys = c.change_entry.new.phys; frames = c.release.new.self; backing = c.if-dirty.store.backing; history = c.change_entry.new.history; ahead = c.if-dirty.store.ahead }) (is_dirty (entry_in w c.args.page))
          (known ∙ x.if-dirty.false) (ap (λ s. s.backing) x.store-is)
    ]

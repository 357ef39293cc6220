-- The entry of a page that goes out, or comes in, may be written.
use Rattle.std.proofs.Common.{◌≡◌, ◌≢◌, ◌∙◌, ℕ, ◌<◌, true, false, ap, sym, subst, List, slice_index, Some}
use Rattle.spur_addr.specs.Address.{page_of, table_start}
use Rattle.spur_addr.specs.PageEntry.{is_valid, number_of, protection_of, swapped_of}
use Rattle.spur_addr.proofs.EntryFacts.{is_valid-swapped, number_of-resident, resident_readable, swapped_readable}
use Rattle.spur_cache.specs.declared.line.Line.{Line}
use Rattle.spur_flat.specs.declared.flat.Flat.{Flat}
use Rattle.spur_flat.specs.declared.entry.Entry.{Entry}
use Rattle.spur_flat.specs.Pager.{word_of, brought_entry}
use Rattle.spur_bus.specs.Boards.{line_in}
use Rattle.spur_walk.specs.Present.{ArePresent}
use Rattle.spur_walk.specs.Tables.{IsPageFrame, block_address, logical_flat, user_roots}
use Rattle.spur_walk.proofs.StepFacts.{same_flat}
use Rattle.spur_pager.specs.declared.change.Change.TheVariants.{In, Out}
use Rattle.spur_pager.specs.Acts.{Hold}
use Rattle.spur_pager.specs.Changes.{MayChange, hold_entry}
use Rattle.spur_pager.specs.Drops.{IsUnheld}
use Rattle.spur_pager.specs.Fetch.{Leads}
use Rattle.spur_pager.proofs.PlaceFacts.{word_page}
use Rattle.std.proofs.lemmas.Bool.{false≢true}

-- nor has one after the steps towards its entry
pub unheld_still : (b g : ℕ) (from mid : Hold) (fetched : List Entry) → Leads b g from fetched mid → IsUnheld from g → IsUnheld mid g
unheld_still b g from mid fetched leads un = record {
  none = λ (i s : ℕ) (line : Line) (there : line_in mid.caches i s ≡ Some line) (low : block_address line.tag < table_start) (page : page_of (block_address line.tag) ≡ page_of g).
      let was = leads.user i s line there low in
      un.none i was.slot was.line was.there (subst (λ (n : ℕ). block_address n < table_start) (sym was.tag_is) low) (ap (λ (n : ℕ). page_of (block_address n)) was.tag_is ∙ page);
}

-- a page of which no cache has a line may go out
pub out_may : (b g slot : ℕ) (from : Hold) → IsUnheld from g → MayChange b g (Out slot) from
out_may b g slot from un fetched mid leads =
    let F : Flat = logical_flat mid.caches mid.memory in
    let still = unheld_still b g from mid fetched leads un in
    let new : ℕ = swapped_of slot (protection_of (hold_entry mid g)) in
    let out : is_valid new ≡ false = is_valid-swapped slot (protection_of (hold_entry mid g)) in
    record {
      readable = swapped_readable slot (protection_of (hold_entry mid g));
      suits = λ (i s : ℕ) (line : Line) (there : line_in mid.caches i s ≡ Some line) (low : block_address line.tag < table_start) (page : page_of (block_address line.tag) ≡ page_of g). absurd (still.none i s line there low page);
      frame = λ (v : is_valid new ≡ true). absurd (false≢true (sym out ∙ v));
      apart = λ (v : is_valid new ≡ true) (to : ℕ) (user : to < table_start) (page : page_of to ≢ page_of g) (vt : is_valid (word_of F to) ≡ true) (same : number_of (word_of F to) ≡ number_of new). false≢true (sym out ∙ v);
      table = λ (v : is_valid new ≡ true) (r : ℕ) (small : r < user_roots) (vr : is_valid (slice_index F.words r) ≡ true) (same : number_of new ≡ number_of (slice_index F.words r)). false≢true (sym out ∙ v);
    }

-- a frame that no valid entry names, and no root entry
pub record IsSpare (F : Flat) (frame : ℕ) : Type 0 where
  pub is : IsPageFrame F frame
  pub apart : (to : ℕ) → to < table_start → is_valid (word_of F to) ≡ true → number_of (word_of F to) ≢ frame
  pub table : (r : ℕ) → r < user_roots → is_valid (slice_index F.words r) ≡ true → frame ≢ number_of (slice_index F.words r)

-- a page that is not valid has no line
pub absent_unheld : (h : Hold) (g : ℕ) → ArePresent (logical_flat h.caches h.memory) h.caches → is_valid (hold_entry h g) ≡ false → IsUnheld h g
absent_unheld h g present absent = record {
  none = λ (i s : ℕ) (line : Line) (there : line_in h.caches i s ≡ Some line) (low : block_address line.tag < table_start) (page : page_of (block_address line.tag) ≡ page_of g).
      let was = present.user i s line there low in
      false≢true (sym absent ∙ ap (λ (n : ℕ). is_valid n) (sym (word_page (logical_flat h.caches h.memory) (block_address line.tag) g page)) ∙ was.valid);
}

-- and may come in, into a spare frame
pub in_may : (b g frame : ℕ) (from : Hold) → IsUnheld from g → IsSpare (logical_flat from.caches from.memory) frame → MayChange b g (In frame) from
in_may b g frame from un spare fetched mid leads =
    let F : Flat = logical_flat mid.caches mid.memory in
    let still = unheld_still b g from mid fetched leads un in
    let new : ℕ = brought_entry frame (hold_entry mid g) in
    let is : number_of new ≡ frame = number_of-resident frame (protection_of (hold_entry mid g)) in
    let same : logical_flat from.caches from.memory ≡ F = sym (same_flat from.caches mid.caches from.memory mid.memory leads.logical) in
    let now : IsSpare F frame = subst (λ (G : Flat). IsSpare G frame) same spare in
    record {
      readable = resident_readable frame (protection_of (hold_entry mid g));
      suits = λ (i s : ℕ) (line : Line) (there : line_in mid.caches i s ≡ Some line) (low : block_address line.tag < table_start) (page : page_of (block_address line.tag) ≡ page_of g). absurd (still.none i s line there low page);
      frame = λ (v : is_valid new ≡ true). subst (IsPageFrame F) (sym is) now.is;
      apart = λ (v : is_valid new ≡ true) (to : ℕ) (user : to < table_start) (page : page_of to ≢ page_of g) (vt : is_valid (word_of F to) ≡ true) (h : number_of (word_of F to) ≡ number_of new). now.apart to user vt (h ∙ is);
      table = λ (v : is_valid new ≡ true) (r : ℕ) (small : r < user_roots) (vr : is_valid (slice_index F.words r) ≡ true) (h : number_of new ≡ number_of (slice_index F.words r)). now.table r small vr (sym is ∙ h);
    }

-- The frame table after a page went out: its frame is free, and the table is that of the pages.
use Rattle.std.proofs.Common.{◌≡◌, ◌≢◌, ◌∙◌, ℕ, ◌+◌, ◌-◌, ◌<◌, ◌≤◌, ⊎_elim, Bool, true, false, if◌then◌else◌, ap, sym, subst, List, get_or, length, Option, Some, None, arith}
use Rattle.std.proofs.lemmas.Bool.{cases_eq, eq-eqb, false≢true}
use Rattle.std.proofs.lemmas.List.{get_or-set_other, get_or-set_same, length-set}
use Rattle.std.proofs.lemmas.Option.{none-some}
use Rattle.spur_addr.specs.Address.{page_of, page_address, user_pages}
use Rattle.spur_addr.specs.PageEntry.{is_leaving, is_valid, number_of}
use Rattle.spur_flat.specs.declared.flat.Flat.{Flat}
use Rattle.spur_flat.specs.Pager.{position_in, word_of}
use Rattle.spur_frames.specs.Frames.{Frames, IsFrame, holder_of, other_than, release_frame}
use Rattle.spur_frames.specs.Clock.{page_held}
use Rattle.spur_pager.specs.Stand.{AreFramed, FrameHolds}
use Rattle.spur_pager.proofs.EntryFacts.{Entries, IsAbove, entries, page_again}
use Rattle.spur_pager.proofs.PlaceFacts.{placed}

-- what swap has is of no account for what the table says of pages
pub framed_swap : (F : Flat) (swap : List ℕ) (frames : Frames) → AreFramed F frames → AreFramed (record F { swap = swap }) frames
framed_swap F swap frames ok = record {
  first = ok.first;
  count = ok.count;
  taken = λ (frame page slot : ℕ) (is : IsFrame frames frame) (has : holder_of frames frame ≡ Some (page, slot)).
      let h = ok.taken frame page slot is has in
      record { small = h.small; declared = h.declared; slot_is = h.slot_is; valid = h.valid; number = h.number };
  holds = ok.holds;
  leaving = ok.leaving;
  leaves = ok.leaves;
}

-- a page that is valid, leaving and held by a frame, and an entry that is not valid
pub record IsLeft (F : Flat) (frames : Frames) (frame page slot new : ℕ) : Type 0 where
  pub is_frame : IsFrame frames frame
  pub held : holder_of frames frame ≡ Some (page, slot)
  pub holds : FrameHolds F frame page slot
  pub leaving : is_leaving (word_of F (page_address page)) ≡ true
  pub new_valid : is_valid new ≡ false

module _ (F : Flat) (frames : Frames) (frame page slot new : ℕ) (a : IsAbove F (page_address page)) (l : IsLeft F frames frame page slot new) (ok : AreFramed F frames) where
  abbrev g : ℕ
  g = page_address page

  abbrev after : Frames
  after = release_frame frames frame

  e : Entries F g new
  e = entries F g new a

  inside : frame - frames.first < length frames.held
  inside =
      let low : frames.first ≤ frame = l.is_frame.low in
      let high : frame < frames.first + length frames.held = l.is_frame.high in
      omega arith

  gone : (f : ℕ) → f - frames.first ≡ frame - frames.first → holder_of after f ≡ None
  gone f same = ap (λ (n : ℕ). get_or after.held n None) same ∙ get_or-set_same frames.held (frame - frames.first) None None inside

  kept : (f : ℕ) → f - frames.first ≢ frame - frames.first → holder_of after f ≡ holder_of frames f
  kept f apart = get_or-set_other frames.held (frame - frames.first) (f - frames.first) None None apart

  pub none_leaving : after.leaving ≡ None
  none_leaving =
      ap (λ (o : Option ℕ). other_than o frame) (ok.leaves page l.holds.small l.holds.valid l.leaving)
      ∙ ap (λ (b : Bool). if b then None else Some (number_of (word_of F g))) (eq-eqb (number_of (word_of F g)) frame l.holds.number)

  -- a page that is valid now is another
  another : (p : ℕ) → p < user_pages → is_valid (word_of (placed F g new) (page_address p)) ≡ true → p ≢ page
  another p small valid same =
      let here : word_of (placed F g new) (page_address p) ≡ new = e.here p small (same ∙ sym (page_again page)) in
      false≢true (sym l.new_valid ∙ ap (λ (n : ℕ). is_valid n) (sym here) ∙ valid)

  stays : (p : ℕ) → p < user_pages → p ≢ page → word_of (placed F g new) (page_address p) ≡ word_of F (page_address p)
  stays p small apart = e.others p small (λ (same : p ≡ page_of g). apart (same ∙ page_again page))

  taken_other : (f p s : ℕ) → f - frames.first ≢ frame - frames.first → FrameHolds F f p s → FrameHolds (placed F g new) f p s
  taken_other f p s apart h =
      let other : p ≢ page = λ (same : p ≡ page).
      apart (ap (λ (n : ℕ). n - frames.first) (sym h.number ∙ ap (λ (q : ℕ). number_of (word_of F (page_address q))) same ∙ l.holds.number)) in
      let word : word_of (placed F g new) (page_address p) ≡ word_of F (page_address p) = stays p h.small other in
      record {
        small = h.small;
        declared = h.declared;
        slot_is = h.slot_is;
        valid = ap (λ (n : ℕ). is_valid n) word ∙ h.valid;
        number = ap (λ (n : ℕ). number_of n) word ∙ h.number;
      }

  holds_other : (p : ℕ) → p < user_pages → is_valid (word_of (placed F g new) (page_address p)) ≡ true
      → holder_of after (number_of (word_of (placed F g new) (page_address p))) ≡ Some (p, position_in F.pages p)
  holds_other p small valid =
      let other : p ≢ page = another p small valid in
      let word : word_of (placed F g new) (page_address p) ≡ word_of F (page_address p) = stays p small other in
      let n : ℕ = number_of (word_of F (page_address p)) in
      let was : holder_of frames n ≡ Some (p, position_in F.pages p) = ok.holds p small (ap (λ (m : ℕ). is_valid m) (sym word) ∙ valid) in
      let apart : n - frames.first ≢ frame - frames.first = λ (same : n - frames.first ≡ frame - frames.first).
      let both : Some (p, position_in F.pages p) ≡ Some (page, slot) = sym was ∙ ap (λ (m : ℕ). get_or frames.held m None) same ∙ l.held in
      other (ap page_held both) in
      ap (λ (m : ℕ). holder_of after (number_of m)) word ∙ kept n apart ∙ was

  pub framed_out : AreFramed (placed F g new) after
  framed_out = record {
    first = ok.first;
    count = length-set frames.held (frame - frames.first) None ∙ ok.count;
    taken = λ (f p s : ℕ) (is : IsFrame after f) (has : holder_of after f ≡ Some (p, s)).
        ⊎_elim
        (λ (same : f - frames.first ≡ frame - frames.first). absurd (none-some (p, s) (sym (gone f same) ∙ has)))
        (λ (apart : f - frames.first ≢ frame - frames.first).
        let count : length after.held ≡ length frames.held = length-set frames.held (frame - frames.first) None in
        let was : IsFrame frames f = record { low = is.low; high = subst (λ (n : ℕ). f < frames.first + n) count is.high } in
        taken_other f p s apart (ok.taken f p s was (sym (kept f apart) ∙ has)))
        (cases_eq (f - frames.first) (frame - frames.first));
    holds = holds_other;
    leaving = λ (f : ℕ) (is : after.leaving ≡ Some f). absurd (none-some f (sym none_leaving ∙ is));
    leaves = λ (p : ℕ) (small : p < user_pages) (valid : is_valid (word_of (placed F g new) (page_address p)) ≡ true) (is : is_leaving (word_of (placed F g new) (page_address p)) ≡ true).
        let other : p ≢ page = another p small valid in
        let word : word_of (placed F g new) (page_address p) ≡ word_of F (page_address p) = stays p small other in
        let valid_was : is_valid (word_of F (page_address p)) ≡ true = ap (λ (m : ℕ). is_valid m) (sym word) ∙ valid in
        let leaving_was : is_leaving (word_of F (page_address p)) ≡ true = ap (λ (m : ℕ). is_leaving m) (sym word) ∙ is in
        let mine : frames.leaving ≡ Some (number_of (word_of F g)) = ok.leaves page l.holds.small l.holds.valid l.leaving in
        let its : frames.leaving ≡ Some (number_of (word_of F (page_address p))) = ok.leaves p small valid_was leaving_was in
        let numbers : Some (number_of (word_of F (page_address p))) ≡ Some (number_of (word_of F g)) = sym its ∙ mine in
        let both : Some (p, position_in F.pages p) ≡ Some (page, position_in F.pages page) =
        sym (ok.holds p small valid_was) ∙ ap (holder_of frames) (number_in numbers) ∙ ok.holds page l.holds.small l.holds.valid in
        absurd (other (ap page_held both));
  }
    where
      number_in : {a b : ℕ} → Some a ≡ Some b → a ≡ b
      number_in h = cc

-- What an entry of the pager leaves of a declared page: the plain page that it stands for.
use Rattle.std.proofs.Common.{◌≡◌, ◌≢◌, ◌∙◌, ℕ, ◌^◌, ◌<◌, ◌≤◌, ⊎_elim, ◌⊎◌, inl, inr, Bool, true, false, if◌then◌else◌, refl, sym, ap, subst, arith, List}
use Rattle.std.proofs.lemmas.Bool.{cases_eq}
use Rattle.spur_addr.specs.Address.{page_address, page_of}
use Rattle.spur_addr.specs.PageEntry.{is_valid, is_dirty, number_of, protection_of, resident_of, swapped_of, with_bit}
use Rattle.spur_addr.specs.Pages.{page_at, with_page}
use Rattle.spur_addr.specs.declared.page_entry.Protection.{Protection as Allowance}
use Rattle.spur_addr.proofs.BitFacts.{flag-with_other, number_of-with, protection_of-with}
use Rattle.spur_addr.proofs.EntryFacts.{is_valid-resident, is_valid-swapped, number_of-resident, protection_of-resident, protection_of-swapped}
use Rattle.spur_flat.specs.declared.flat.Flat.{Flat}
use Rattle.spur_flat.specs.Validity.{IsDataFrame, IsValidFlat}
use Rattle.spur_flat.specs.Pager.{come_in, gone_out, is_declared, is_free_frame, page_loaded, position_in, swap_slot_of, with_entry, with_entry_bit, word_of}
use Rattle.spur_flat.proofs.CleanFacts.{page_of-address, word_of-same_page}
use Rattle.spur_flat.proofs.PageWordFacts.{IsPut, page_other, page_put}
use Rattle.spur_flat.proofs.PagerFacts.{frame_inside, free_frame, loaded_same, none_has, page_long, slot_inside, valid-loaded}
use Rattle.spur_plain.specs.PlainMemory.{PlainPage}
use Rattle.spur_plain.specs.Virtual.{virtual_page, words_under}
use Rattle.spur_plain.proofs.PageFacts.{data_frame, declared_is, declared_page, declares, entry_in, kept_entry, placed, slots_apart}

-- a page is clean: valid and not dirty it has the words of its slot
abbrev pub IsCleanAt : Flat → ℕ → Type 0
IsCleanAt F p = is_valid (entry_in F p) ≡ true → is_dirty (entry_in F p) ≡ false
    → page_at F.words (number_of (entry_in F p)) ≡ page_at F.swap (swap_slot_of F (page_address p))

-- a page stands for the same plain page
abbrev pub Stays : Flat → Flat → ℕ → Type 0
Stays F G p = virtual_page G p ≡ virtual_page F p

abbrev plain_page_of : ℕ → Allowance → List ℕ → PlainPage
plain_page_of p a ws = record { page = p; protection = a; words = ws }

pub page_path : (p : ℕ) (a b : Allowance) (us vs : List ℕ) → a ≡ b → us ≡ vs → plain_page_of p a us ≡ plain_page_of p b vs
page_path p a b us vs e f = ap (λ (x : Allowance). plain_page_of p x us) e ∙ ap (plain_page_of p b) f

-- the words of one of two
either : (b : Bool) (x y u v : List ℕ) → (b ≡ true → x ≡ u) → y ≡ v → (if b then x else y) ≡ (if b then u else v)
either true x y u v first second = first refl
either false x y u v first second = second

first_of : (b : Bool) (x y : List ℕ) → b ≡ true → (if b then x else y) ≡ x
first_of b x y e = ap (λ (c : Bool). if c then x else y) e

second_of : (b : Bool) (x y : List ℕ) → b ≡ false → (if b then x else y) ≡ y
second_of b x y e = ap (λ (c : Bool). if c then x else y) e

-- ---- a page that keeps its frame and its words

pub record IsSteady (F G : Flat) (p : ℕ) : Type 0 where
  pub valid : is_valid (entry_in G p) ≡ is_valid (entry_in F p)
  pub number : number_of (entry_in G p) ≡ number_of (entry_in F p)
  pub protection : protection_of (entry_in G p) ≡ protection_of (entry_in F p)
  pub frame : is_valid (entry_in F p) ≡ true → page_at G.words (number_of (entry_in F p)) ≡ page_at F.words (number_of (entry_in F p))
  pub slot : page_at G.swap (swap_slot_of G (page_address p)) ≡ page_at F.swap (swap_slot_of F (page_address p))

pub steady_stays : (F G : Flat) (p : ℕ) → IsSteady F G p → Stays F G p
steady_stays F G p s =
    page_path p (protection_of (entry_in G p)) (protection_of (entry_in F p)) (words_under G p (entry_in G p)) (words_under F p (entry_in F p)) s.protection
    (ap (λ (b : Bool). if b then page_at G.words (number_of (entry_in G p)) else page_at G.swap (swap_slot_of G (page_address p))) s.valid
    ∙ ap (λ (n : ℕ). if is_valid (entry_in F p) then page_at G.words n else page_at G.swap (swap_slot_of G (page_address p))) s.number
    ∙ either (is_valid (entry_in F p)) _ _ _ _ s.frame s.slot)

-- an entry that is the same is so in all
pub same_entry : (F G : Flat) (p : ℕ) → entry_in G p ≡ entry_in F p
    → (is_valid (entry_in F p) ≡ true → page_at G.words (number_of (entry_in F p)) ≡ page_at F.words (number_of (entry_in F p)))
    → page_at G.swap (swap_slot_of G (page_address p)) ≡ page_at F.swap (swap_slot_of F (page_address p)) → IsSteady F G p
same_entry F G p e frame slot = record { valid = ap is_valid e; number = ap number_of e; protection = ap protection_of e; frame = frame; slot = slot }

-- another page keeps all, whatever entry the page of g has
other_stays : (F : Flat) (g new p : ℕ) → IsValidFlat F → g < 2 ^ 38 → is_declared F g ≡ true → declares F p ≡ true → p ≢ page_of g → Stays F (with_entry F g new) p
other_stays F g new p ok small declared d apart =
    let all = placed F g new ok small declared in
    steady_stays F (with_entry F g new) p
    (same_entry F (with_entry F g new) p (all.there p (declared_is F p ok d).few apart)
    (λ v. all.words (number_of (entry_in F p)) (data_frame F p ok d v).low) refl)

-- ---- an entry is marked

-- a bit that is neither valid nor one of the protection's
pub record IsMark (k : ℕ) : Type 0 where
  pub not_valid : 0 ≢ k
  pub free : (k < 3) ⊎ (5 ≤ k)
  pub below : k < 12

marked_steady : (F : Flat) (g k p : ℕ) (to : Bool) → IsValidFlat F → g < 2 ^ 38 → is_declared F g ≡ true → declares F p ≡ true → IsMark k → p ≡ page_of g
    → IsSteady F (with_entry_bit F g k to) p
marked_steady F g k p to ok small declared d mark is =
    let all = placed F g (with_bit (word_of F g) k to) ok small declared in
    let now : entry_in (with_entry_bit F g k to) p ≡ with_bit (entry_in F p) k to =
    all.here p is ∙ ap (λ (w : ℕ). with_bit w k to) (sym (word_of-same_page F g p is)) in
    record {
      valid = ap is_valid now ∙ flag-with_other (entry_in F p) k 0 to mark.not_valid;
      number = ap number_of now ∙ number_of-with (entry_in F p) k to mark.below;
      protection = ap protection_of now ∙ protection_of-with (entry_in F p) k to mark.free;
      frame = λ v. all.words (number_of (entry_in F p)) (data_frame F p ok d v).low;
      slot = refl;
    }

pub marked_stays : (F : Flat) (g k p : ℕ) (to : Bool) → IsValidFlat F → g < 2 ^ 38 → is_declared F g ≡ true → IsMark k → declares F p ≡ true → Stays F (with_entry_bit F g k to) p
marked_stays F g k p to ok small declared mark d =
    ⊎_elim
    (λ (is : p ≡ page_of g). steady_stays F (with_entry_bit F g k to) p (marked_steady F g k p to ok small declared d mark is))
    (λ (apart : p ≢ page_of g). other_stays F g (with_bit (word_of F g) k to) p ok small declared d apart)
    (cases_eq p (page_of g))

pub leaving_mark : IsMark 6
leaving_mark = record { not_valid = λ h. cc; free = inr (omega arith); below = omega arith }

pub referenced_mark : IsMark 1
referenced_mark = record { not_valid = λ h. cc; free = inl (omega arith); below = omega arith }

pub dirty_mark : IsMark 2
dirty_mark = record { not_valid = λ h. cc; free = inl (omega arith); below = omega arith }

-- ---- a page goes out

-- the slot of the page is that of g
slot_here : (F : Flat) (g p : ℕ) → p ≡ page_of g → swap_slot_of F (page_address p) ≡ swap_slot_of F g
slot_here F g p is = ap (position_in F.pages) (page_of-address p ∙ is)

abbrev saved_in : Flat → ℕ → Flat
saved_in F g = record F { swap = with_page F.swap (swap_slot_of F g) (page_at F.words (number_of (word_of F g))) }

abbrev out_of : Bool → Flat → ℕ → Flat
out_of d F g = with_entry (if d then saved_in F g else F) g (swapped_of (swap_slot_of F g) (protection_of (word_of F g)))

-- the page of g is in a frame
record IsIn (F : Flat) (g : ℕ) : Type 0 where
  ok : IsValidFlat F
  small : g < 2 ^ 38
  declared : is_declared F g ≡ true
  valid : is_valid (word_of F g) ≡ true

page_declared : (F : Flat) (g : ℕ) → is_declared F g ≡ true → declares F (page_of g) ≡ true
page_declared F g h = declared_page F g (page_of g) refl h

is_put : (F : Flat) (g : ℕ) → IsIn F g → IsPut F.swap (page_at F.words (number_of (word_of F g))) (swap_slot_of F g)
is_put F g i =
    let e : entry_in F (page_of g) ≡ word_of F g = word_of-same_page F g (page_of g) refl in
    let frame : IsDataFrame F.tables F.frames (number_of (word_of F g)) =
    subst (λ (w : ℕ). IsDataFrame F.tables F.frames (number_of w)) e (data_frame F (page_of g) i.ok (page_declared F g i.declared) (ap is_valid e ∙ i.valid)) in
    record {
      within = slot_inside F g i.ok i.small i.declared;
      long = page_long F.words (number_of (word_of F g)) (frame_inside F (number_of (word_of F g)) i.ok frame);
    }

-- the page itself: on swap, with the words that it had in its frame
out_here : (F G : Flat) (g p : ℕ) → p ≡ page_of g → is_valid (word_of F g) ≡ true → entry_in G p ≡ swapped_of (swap_slot_of F g) (protection_of (word_of F g))
    → page_at G.swap (swap_slot_of G (page_address p)) ≡ page_at F.words (number_of (entry_in F p)) → Stays F G p
out_here F G g p is valid e words =
    let old : entry_in F p ≡ word_of F g = word_of-same_page F g p is in
    let gone : is_valid (entry_in G p) ≡ false = ap is_valid e ∙ is_valid-swapped (swap_slot_of F g) (protection_of (word_of F g)) in
    page_path p (protection_of (entry_in G p)) (protection_of (entry_in F p)) (words_under G p (entry_in G p)) (words_under F p (entry_in F p))
    (ap protection_of e ∙ protection_of-swapped (swap_slot_of F g) (protection_of (word_of F g)) ∙ ap protection_of (sym old))
    (second_of (is_valid (entry_in G p)) _ _ gone ∙ words ∙ sym (first_of (is_valid (entry_in F p)) _ _ (ap is_valid old ∙ valid)))

out_stays : (d : Bool) (F : Flat) (g p : ℕ) → IsIn F g → declares F p ≡ true → IsCleanAt F p → is_dirty (word_of F g) ≡ d → (p ≡ page_of g) ⊎ (p ≢ page_of g) → Stays F (out_of d F g) p
out_stays true F g p i declared clean dirty (inl is) =
    out_here F (out_of true F g) g p is i.valid ((placed F g (swapped_of (swap_slot_of F g) (protection_of (word_of F g))) i.ok i.small i.declared).here p is)
    (ap (page_at (out_of true F g).swap) (slot_here F g p is) ∙ page_put F.swap (page_at F.words (number_of (word_of F g))) (swap_slot_of F g) (is_put F g i)
    ∙ ap (λ (w : ℕ). page_at F.words (number_of w)) (sym (word_of-same_page F g p is)))
out_stays true F g p i declared clean dirty (inr apart) =
    let all = placed F g (swapped_of (swap_slot_of F g) (protection_of (word_of F g))) i.ok i.small i.declared in
    let other : swap_slot_of F (page_address p) ≢ swap_slot_of F g =
    λ h. slots_apart F p (page_of g) i.ok declared (page_declared F g i.declared) apart (h ∙ sym (slot_here F g (page_of g) refl)) in
    steady_stays F (out_of true F g) p
    (same_entry F (out_of true F g) p (all.there p (declared_is F p i.ok declared).few apart)
    (λ v. all.words (number_of (entry_in F p)) (data_frame F p i.ok declared v).low)
    (page_other F.swap (page_at F.words (number_of (word_of F g))) (swap_slot_of F g) (swap_slot_of F (page_address p)) (is_put F g i)
    (slot_inside F (page_address p) i.ok (declared_is F p i.ok declared).small declared) other))
out_stays false F g p i declared clean dirty (inl is) =
    let old : entry_in F p ≡ word_of F g = word_of-same_page F g p is in
    out_here F (out_of false F g) g p is i.valid ((placed F g (swapped_of (swap_slot_of F g) (protection_of (word_of F g))) i.ok i.small i.declared).here p is)
    (sym (clean (ap is_valid old ∙ i.valid) (ap is_dirty old ∙ dirty)))
out_stays false F g p i declared clean dirty (inr apart) =
    other_stays F g (swapped_of (swap_slot_of F g) (protection_of (word_of F g))) p i.ok i.small i.declared declared apart

-- clean pages are asked for here alone: one that is not dirty is not saved
pub gone_stays : (F : Flat) (g p : ℕ) → IsValidFlat F → g < 2 ^ 38 → is_declared F g ≡ true → is_valid (word_of F g) ≡ true → declares F p ≡ true → IsCleanAt F p
    → Stays F (gone_out F g (word_of F g)) p
gone_stays F g p ok small declared valid d clean =
    out_stays (is_dirty (word_of F g)) F g p (record { ok = ok; small = small; declared = declared; valid = valid }) d clean refl (cases_eq p (page_of g))

-- ---- a page comes in

-- the page of g is on swap, and a frame is free
record IsOut (F : Flat) (g frame : ℕ) : Type 0 where
  ok : IsValidFlat F
  small : g < 2 ^ 38
  declared : is_declared F g ≡ true
  absent : is_valid (word_of F g) ≡ false
  free : is_free_frame F frame ≡ true

is_loaded : (F : Flat) (g frame : ℕ) → IsOut F g frame → IsPut F.words (page_at F.swap (swap_slot_of F g)) frame
is_loaded F g frame o = record {
  within = frame_inside F frame o.ok (free_frame F frame o.free).among;
  long = page_long F.swap (swap_slot_of F g) (slot_inside F g o.ok o.small o.declared);
}

abbrev new_of : Flat → ℕ → ℕ → ℕ
new_of F g frame = resident_of frame (protection_of (word_of F g))

in_stays : (F : Flat) (g frame p : ℕ) → IsOut F g frame → declares F p ≡ true → (p ≡ page_of g) ⊎ (p ≢ page_of g) → Stays F (come_in F g (word_of F g) frame) p
in_stays F g frame p o declared (inl is) =
    let G : Flat = come_in F g (word_of F g) frame in
    let prot : Allowance = protection_of (word_of F g) in
    let all = placed (page_loaded F g frame) g (new_of F g frame) (valid-loaded F g frame o.ok o.small o.declared o.free) o.small o.declared in
    let old : entry_in F p ≡ word_of F g = word_of-same_page F g p is in
    let e : entry_in G p ≡ new_of F g frame = all.here p is in
    let number : number_of (entry_in G p) ≡ frame = ap number_of e ∙ number_of-resident frame prot in
    let words : page_at G.words (number_of (entry_in G p)) ≡ page_at F.swap (swap_slot_of F (page_address p)) =
    ap (page_at G.words) number ∙ all.words frame (free_frame F frame o.free).among.low
    ∙ page_put F.words (page_at F.swap (swap_slot_of F g)) frame (is_loaded F g frame o)
    ∙ ap (page_at F.swap) (sym (slot_here F g p is)) in
    page_path p (protection_of (entry_in G p)) (protection_of (entry_in F p)) (words_under G p (entry_in G p)) (words_under F p (entry_in F p))
    (ap protection_of e ∙ protection_of-resident frame prot ∙ ap protection_of (sym old))
    (first_of (is_valid (entry_in G p)) _ _ (ap is_valid e ∙ is_valid-resident frame prot) ∙ words ∙ sym (second_of (is_valid (entry_in F p)) _ _ (ap is_valid old ∙ o.absent)))
in_stays F g frame p o declared (inr apart) =
    let G : Flat = come_in F g (word_of F g) frame in
    let all = placed (page_loaded F g frame) g (new_of F g frame) (valid-loaded F g frame o.ok o.small o.declared o.free) o.small o.declared in
    let page = declared_is F p o.ok declared in
    let is_free = free_frame F frame o.free in
    let kept : entry_in (page_loaded F g frame) p ≡ entry_in F p = kept_entry F (page_loaded F g frame).words p o.ok page.few (loaded_same F g frame o.ok is_free.among) in
    steady_stays F G p
    (same_entry F G p (all.there p page.few apart ∙ kept)
    (λ v.
    let n : ℕ = number_of (entry_in F p) in
    let among = data_frame F p o.ok declared v in
    all.words n among.low
    ∙ page_other F.words (page_at F.swap (swap_slot_of F g)) frame n (is_loaded F g frame o) (frame_inside F n o.ok among) (none_has F frame p (entry_in F p) o.ok is_free page.few page.there v))
    refl)

pub come_stays : (F : Flat) (g frame p : ℕ) → IsValidFlat F → g < 2 ^ 38 → is_declared F g ≡ true → is_valid (word_of F g) ≡ false → is_free_frame F frame ≡ true → declares F p ≡ true
    → Stays F (come_in F g (word_of F g) frame) p
come_stays F g frame p ok small declared absent free d =
    in_stays F g frame p (record { ok = ok; small = small; declared = declared; absent = absent; free = free }) d (cases_eq p (page_of g))

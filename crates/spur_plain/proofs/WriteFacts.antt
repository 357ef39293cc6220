-- A write that is done moves the plain page of its address, and no other.
use Rattle.std.proofs.Common.{◌≡◌, ◌≢◌, ◌∙◌, ℕ, ◌+◌, ◌*◌, ◌/◌, ◌^◌, ◌<◌, ◌≤◌, ◌⊎◌, inl, inr, ⊎_elim, Bool, true, if◌then◌else◌, Option, None, refl, sym, ap, subst, arith, List, length, slice_index, slice_set}
use Rattle.std.proofs.lemmas.Bool.{cases_eq, eq-eqb, ne_eqb}
use Rattle.std.proofs.lemmas.List.{ext_get_or, get_or-set_other, get_or-set_same, length-set}
use Rattle.spur_addr.specs.Address.{page_of}
use Rattle.spur_addr.specs.PageEntry.{is_valid, number_of, protection_of}
use Rattle.spur_flat.specs.declared.flat.Flat.{Flat}
use Rattle.spur_flat.specs.declared.access.AccessKind.{AccessKind}
use Rattle.spur_flat.specs.Access.{may}
use Rattle.spur_flat.specs.Table.{place_in, place_of, table_words, walk_of}
use Rattle.spur_flat.specs.Validity.{IsDataFrame, IsValidFlat}
use Rattle.spur_addr.specs.Pages.{page_at}
use Rattle.spur_flat.specs.Pager.{is_declared, word_of}
use Rattle.spur_flat.specs.History.{with_word_at}
use Rattle.spur_flat.proofs.CleanFacts.{word_of-same_page}
use Rattle.spur_flat.proofs.PagerFacts.{frame_inside, frame_of, page_long}
use Rattle.spur_flat.proofs.PageWordFacts.{page_at-set_other, page_word}
use Rattle.spur_plain.specs.PlainMemory.{PlainPage, page_with, word_in_page}
use Rattle.spur_plain.specs.Virtual.{virtual_page, words_under}
use Rattle.spur_plain.proofs.PageFacts.{data_frame, declared_is, declared_page, declares, entry_in, frames_apart, kept_entry}
use Rattle.spur_plain.proofs.MoveFacts.{page_path, same_entry, steady_stays}
use Rattle.spur_plain.proofs.AnswerFacts.{framed_words, is_done, low_word, valid_page}

-- a word that is put into a page
set_in_page : (words : List ℕ) (n k v : ℕ) → n * 1024 + 1024 ≤ length words → k < 1024 → page_at (slice_set words (n * 1024 + k) v) n ≡ slice_set (page_at words n) k v
set_in_page words n k v within few =
    let new : List ℕ = slice_set words (n * 1024 + k) v in
    let long : length new ≡ length words = length-set words (n * 1024 + k) v in
    let size : length (page_at new n) ≡ 1024 = page_long new n (omega arith) in
    let old : length (page_at words n) ≡ 1024 = page_long words n within in
    ext_get_or 0 (page_at new n) (slice_set (page_at words n) k v) (size ∙ sym (length-set (page_at words n) k v ∙ old))
    (λ (j : ℕ) (small : j < length (page_at new n)).
    let low : j < 1024 = omega arith in
    page_word new n j low
    ∙ ⊎_elim
    (λ (is : j ≡ k).
    ap (λ (i : ℕ). slice_index new (n * 1024 + i)) is ∙ get_or-set_same words (n * 1024 + k) v 0 (omega arith)
    ∙ sym (ap (slice_index (slice_set (page_at words n) k v)) is ∙ get_or-set_same (page_at words n) k v 0 (omega arith)))
    (λ (apart : j ≢ k).
    get_or-set_other words (n * 1024 + k) (n * 1024 + j) v 0 (λ (h : n * 1024 + j ≡ n * 1024 + k). apart (omega arith))
    ∙ sym (page_word words n j low) ∙ sym (get_or-set_other (page_at words n) k j v 0 apart))
    (cases_eq j k))

-- a word of a frame past the tables, and the entries
past_entry : (F : Flat) (place v p : ℕ) → IsValidFlat F → p < 2 ^ 26 → table_words F.tables ≤ place → entry_in (with_word_at F place v) p ≡ entry_in F p
past_entry F place v p ok few past = kept_entry F (slice_set F.words place v) p ok few (λ k below. get_or-set_other F.words place k v 0 (λ (h : k ≡ place). omega arith))

record IsWritten (F : Flat) (g : ℕ) : Type 0 where
  ok : IsValidFlat F
  small : g < 2 ^ 38
  declared : is_declared F g ≡ true
  valid : is_valid (word_of F g) ≡ true
  frame : IsDataFrame F.tables F.frames (number_of (word_of F g))

abbrev word_place : Flat → ℕ → ℕ
word_place F g = number_of (word_of F g) * 1024 + word_in_page g

past_tables : (F : Flat) (g : ℕ) → IsWritten F g → table_words F.tables ≤ word_place F g
past_tables F g w = let low : 64 + F.tables ≤ number_of (word_of F g) = w.frame.low in omega arith

-- the frame of a place
place_frame : (m n k : ℕ) → k < 1024 → (n * 1024 + k) / 1024 ≡ m → m ≡ n
place_frame m n k low is = let r : (n * 1024 + k) / 1024 ≡ n = omega arith in sym is ∙ r

-- the plain page of each declared page, where the word of g is written
moved : (F : Flat) (g v p : ℕ) → IsWritten F g → declares F p ≡ true → (p ≡ page_of g) ⊎ (p ≢ page_of g) → virtual_page (with_word_at F (word_place F g) v) p ≡ page_with g v (virtual_page F p)
moved F g v p w declared (inl is) =
    let G : Flat = with_word_at F (word_place F g) v in
    let e : ℕ = word_of F g in
    let old : entry_in F p ≡ e = word_of-same_page F g p is in
    let kept : entry_in G p ≡ entry_in F p = past_entry F (word_place F g) v p w.ok (declared_is F p w.ok declared).few (past_tables F g w) in
    let new_page : PlainPage = record { page = p; protection = protection_of (entry_in F p); words = slice_set (virtual_page F p).words (word_in_page g) v } in
    page_path p (protection_of (entry_in G p)) (protection_of (entry_in F p)) (words_under G p (entry_in G p)) (slice_set (virtual_page F p).words (word_in_page g) v)
    (ap protection_of kept)
    (framed_words G p e (kept ∙ old) w.valid ∙ set_in_page F.words (number_of e) (word_in_page g) v (frame_inside F (number_of e) w.ok w.frame) (low_word g)
    ∙ ap (λ (ws : List ℕ). slice_set ws (word_in_page g) v) (sym (framed_words F p e old w.valid)))
    ∙ sym (ap (λ (b : Bool). if b then new_page else virtual_page F p) (eq-eqb p (page_of g) is))
moved F g v p w declared (inr apart) =
    let G : Flat = with_word_at F (word_place F g) v in
    let its : entry_in F (page_of g) ≡ word_of F g = word_of-same_page F g (page_of g) refl in
    let new_page : PlainPage = record { page = p; protection = protection_of (entry_in F p); words = slice_set (virtual_page F p).words (word_in_page g) v } in
    steady_stays F G p
    (same_entry F G p (past_entry F (word_place F g) v p w.ok (declared_is F p w.ok declared).few (past_tables F g w))
    (λ h.
    let among = data_frame F p w.ok declared h in
    let other = frames_apart F p (page_of g) w.ok declared (declared_page F g (page_of g) refl w.declared) h (ap is_valid its ∙ w.valid) apart in
    let low : word_in_page g < 1024 = low_word g in
    page_at-set_other F.words (word_place F g) (number_of (entry_in F p)) v (frame_inside F (number_of (entry_in F p)) w.ok among)
    (λ (same : word_place F g / 1024 ≡ number_of (entry_in F p)).
    let is : number_of (entry_in F p) ≡ number_of (word_of F g) = place_frame (number_of (entry_in F p)) (number_of (word_of F g)) (word_in_page g) low same in
    other (is ∙ ap number_of (sym its))))
    refl)
    ∙ sym (ap (λ (b : Bool). if b then new_page else virtual_page F p) (ne_eqb p (page_of g) apart))

pub write_moves : (F : Flat) (access : AccessKind) (g v p : ℕ) → IsValidFlat F → g < 2 ^ 38 → may (walk_of F g) access g None ≡ true → declares F p ≡ true
    → virtual_page (with_word_at F (place_of F g) v) p ≡ page_with g v (virtual_page F p)
write_moves F access g v p ok small done declared =
    let d = is_done (walk_of F g) access g done in
    let there : is_declared F g ≡ true = valid_page F g ok small d.valid in
    let place : place_of F g ≡ word_place F g = ap (λ (o : Option ℕ). place_in o g) d.there in
    let w : IsWritten F g = record { ok = ok; small = small; declared = there; valid = d.valid; frame = frame_of F g ok small there d.valid } in
    subst (λ (k : ℕ). virtual_page (with_word_at F k v) p ≡ page_with g v (virtual_page F p)) (sym place) (moved F g v p w declared (cases_eq p (page_of g)))

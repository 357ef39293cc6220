-- Flat states that are like each other but for data and swapped words: they walk alike, and are valid alike.
use Rattle.std.proofs.Common.{◌≡◌, ℕ, suc, ◌+◌, ◌*◌, ◌/◌, ◌%◌, ◌^◌, ◌<◌, ◌≤◌, Bool, not, ◌&&◌, ◌==◌, ◌||◌, nat_lt, nat_le, Option, refl, sym, ap, ◌∙◌, subst, arith, List, [], ◌∷◌, length, slice_index}
use Rattle.std.specs.List.{list_any}
use Rattle.std.proofs.lemmas.List.{get_or-take}
use Rattle.spur_addr.specs.Address.{page_of}
use Rattle.spur_addr.specs.PageEntry.{is_valid, number_of}
use Rattle.spur_flat.specs.declared.flat.Flat.{Flat}
use Rattle.spur_flat.specs.Table.{table_words, walk_of}
use Rattle.spur_flat.specs.Validity.{ArePages, AreTables, IsValidFlat}
use Rattle.spur_flat.specs.Pager.{word_of, is_declared, has_frame, is_free_frame, entry_place, swap_slot_of}
use Rattle.spur_flat.specs.Pager as pager
use Rattle.spur_flat.specs.Untold.{IsLike}
use Rattle.spur_flat.specs.UntoldLaws.{LikeIsValid}
use Rattle.spur_flat.proofs.WalkFacts.{walk_of-entry, entry_at-same, tables-same}

-- the words of the root and of the page table are the same, one by one
pub word_same : (F other : Flat) (k : ℕ) → IsLike F other → k < table_words other.tables → slice_index F.words k ≡ slice_index other.words k
word_same F other k like below =
    sym (get_or-take (table_words other.tables) F.words k 0 below)
    ∙ ap (λ (words : List ℕ). slice_index words k) like.table
    ∙ get_or-take (table_words other.tables) other.words k 0 below

-- so are those of the root
pub root_same : (F other : Flat) (r : ℕ) → IsLike F other → r < 2 ^ 16 → slice_index F.words r ≡ slice_index other.words r
root_same F other r like few = word_same F other r like (omega arith)

-- the entry of a page stands at the same place
pub place_same : (F other : Flat) (g : ℕ) → IsLike F other → g < 2 ^ 38 → entry_place F g ≡ entry_place other g
place_same F other g like small = ap (λ (root : ℕ). number_of root * 1024 + g / 2 ^ 12 % 1024) (root_same F other (g / 2 ^ 22) like (omega arith))

-- and is the same
pub walk_same : (F other : Flat) (g : ℕ) → IsLike F other → IsValidFlat other → g < 2 ^ 38 → walk_of F g ≡ walk_of other g
walk_same F other g like ok small =
    walk_of-entry F g
    ∙ entry_at-same other.words F.words other.pages other.tables other.frames ok.tables (λ k below. word_same F other k like below) (g / 2 ^ 12) (omega arith)
    ∙ sym (walk_of-entry other g)

-- its word, and 0 where there is none
pub entry_same : (F other : Flat) (g : ℕ) → IsLike F other → IsValidFlat other → g < 2 ^ 38 → word_of F g ≡ word_of other g
entry_same F other g like ok small = ap (λ (entry : Option ℕ). pager.or_zero entry) (walk_same F other g like ok small)

-- the same pages are declared
pub declared_same : (F other : Flat) (g : ℕ) → IsLike F other → is_declared F g ≡ is_declared other g
declared_same F other g like = ap (λ (pages : List ℕ). list_any (λ page. page == page_of g) pages) like.pages

-- and a page has the same slot
pub slot_same : (F other : Flat) (g : ℕ) → IsLike F other → swap_slot_of F g ≡ swap_slot_of other g
slot_same F other g like = ap (λ (pages : List ℕ). pager.position_in pages (page_of g)) like.pages

-- tests that agree on every member of a list agree on whether one passes
list_any_same : (p q : ℕ → Bool) (xs : List ℕ) → ((i : ℕ) → i < length xs → p (slice_index xs i) ≡ q (slice_index xs i)) → list_any p xs ≡ list_any q xs
list_any_same p q [] same = refl
list_any_same p q (x ∷ xs) same =
    ap (λ (b : Bool). b || list_any p xs) (same 0 (omega arith))
    ∙ ap (λ (b : Bool). q x || b) (list_any_same p q xs (λ i below. same (suc i) (omega arith)))

-- a declared page has a frame in both, or in neither
has_same : (F other : Flat) (frame i : ℕ) → IsLike F other → IsValidFlat other → i < length other.pages → has_frame F frame (slice_index other.pages i) ≡ has_frame other frame (slice_index other.pages i)
has_same F other frame i like ok below =
    let low = ok.pages.small i below in
    ap (λ (e : ℕ). is_valid e && (number_of e == frame)) (entry_same F other (slice_index other.pages i * 2 ^ 12) like ok (omega arith))

-- the same frames are free
pub free_same : (F other : Flat) (frame : ℕ) → IsLike F other → IsValidFlat other → is_free_frame F frame ≡ is_free_frame other frame
free_same F other frame like ok =
    let taken : list_any (has_frame F frame) other.pages ≡ list_any (has_frame other frame) other.pages =
    list_any_same (has_frame F frame) (has_frame other frame) other.pages (λ i below. has_same F other frame i like ok below) in
    ap (λ (tables : ℕ). nat_le (64 + tables) frame && nat_lt frame (64 + tables + F.frames) && not (list_any (has_frame F frame) F.pages)) like.tables
    ∙ ap (λ (frames : ℕ). nat_le (64 + other.tables) frame && nat_lt frame (64 + other.tables + frames) && not (list_any (has_frame F frame) F.pages)) like.frames
    ∙ ap (λ (pages : List ℕ). nat_le (64 + other.tables) frame && nat_lt frame (64 + other.tables + other.frames) && not (list_any (has_frame F frame) pages)) like.pages
    ∙ ap (λ (b : Bool). nat_le (64 + other.tables) frame && nat_lt frame (64 + other.tables + other.frames) && not b) taken

-- a flat state that is like a valid one is valid
pub like-is-valid : LikeIsValid
like-is-valid F other like ok =
    let tables : AreTables F.words other.pages other.tables other.frames =
    tables-same other.words F.words other.pages other.tables other.frames ok.tables ok.pages.small (λ k below. word_same F other k like below) in
    let as_many : F.tables ≡ other.tables = like.tables in
    let as_long : F.frames ≡ other.frames = like.frames in
    let words : length F.words ≡ length other.words = like.words in
    let there : length other.words ≡ 1024 * (64 + other.tables + other.frames) = ok.words in
    let few : 64 + other.tables + other.frames ≤ 4096 = ok.few_frames in
    record {
      words = omega arith;
      swap = like.swap ∙ ap (λ (pages : List ℕ). 1024 * length pages) (sym like.pages);
      few_frames = omega arith;
      few_pages = subst (λ (pages : List ℕ). length pages ≤ 2048) (sym like.pages) ok.few_pages;
      pages = subst (λ (pages : List ℕ). ArePages pages) (sym like.pages) ok.pages;
      tables = subst (λ (pages : List ℕ). AreTables F.words pages F.tables F.frames) (sym like.pages)
          (subst (λ (n : ℕ). AreTables F.words other.pages n F.frames) (sym like.tables)
          (subst (λ (n : ℕ). AreTables F.words other.pages other.tables n) (sym like.frames) tables));
    }

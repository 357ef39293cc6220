-- The tables after a page's entry was written at its place.
use Rattle.std.proofs.Common.{◌≡◌, ◌≢◌, ◌∙◌, ℕ, ◌+◌, ◌*◌, ◌/◌, ◌%◌, ◌^◌, ◌<◌, ◌≤◌, ⊎_elim, Bool, true, false, if◌then◌else◌, ap, sym, refl, subst, List, length, slice_set, slice_index, Option, Some, None, arith}
use Rattle.std.specs.Prelude.{IsTrue}
use Rattle.std.proofs.lemmas.Bool.{cases_eq}
use Rattle.std.proofs.lemmas.List.{length-set, get_or-set_same, get_or-set_other}
use Rattle.std.proofs.lemmas.Nat.{shr-shr}
use Rattle.spur_addr.specs.Address.{page_of, root_index_of, root_start, table_start}
use Rattle.spur_addr.specs.PageEntry.{is_valid, is_readable, number_of, protection_of, is_dirty}
use Rattle.spur_cache.specs.declared.line.Line.{Line}
use Rattle.spur_flat.specs.declared.flat.Flat.{Flat}
use Rattle.spur_flat.specs.Blocks.{root_word_of}
use Rattle.spur_flat.specs.Pager.{entry_place, or_zero, word_of}
use Rattle.spur_bus.specs.Boards.{line_in}
use Rattle.spur_walk.specs.Tables.{HasTables, IsPageFrame, OfPage, OfTable, OfRoot, StandsIn, block_address, root_at, user_roots}
use Rattle.spur_walk.specs.Present.{AreMapped, ArePresent, IsPresent}
use Rattle.spur_walk.proofs.FrameFacts.{root_small}
use Rattle.spur_walk.proofs.TableFacts.{index_small}
use Rattle.spur_pager.specs.Writes.{MayWrite}

abbrev pub placed : Flat → ℕ → ℕ → Flat
placed F g e = record F { words = slice_set F.words (entry_place F g) e }

-- the place of the entry of the page of g
pub record IsPlace (F : Flat) (g : ℕ) : Type 0 where
  pub tables : HasTables F
  pub user : g < table_start
  pub valid : is_valid (root_at F g) ≡ true

pub past : (F : Flat) (g : ℕ) → IsPlace F g → 2 ^ 16 ≤ entry_place F g
past F g p =
    let low : 64 ≤ number_of (root_at F g) = (p.tables.root_frame (root_index_of g) (index_small g p.user) p.valid).low in
    let is : 2 ^ 16 ≤ number_of (slice_index F.words (g / 2 ^ 22)) * 1024 + g / 2 ^ 12 % 1024 = omega arith in
    is

pub within : (F : Flat) (g : ℕ) → IsPlace F g → entry_place F g < length F.words
within F g p =
    let room : number_of (root_at F g) * 1024 + 1024 ≤ length F.words = (p.tables.root_frame (root_index_of g) (index_small g p.user) p.valid).room in
    let is : number_of (slice_index F.words (g / 2 ^ 22)) * 1024 + g / 2 ^ 12 % 1024 < length F.words = omega arith in
    is

pub root_kept : (F : Flat) (g e r : ℕ) → IsPlace F g → r < 2 ^ 16 → slice_index (placed F g e).words r ≡ slice_index F.words r
root_kept F g e r p small = let low : 2 ^ 16 ≤ entry_place F g = past F g p in get_or-set_other F.words (entry_place F g) r e 0 (λ (same : r ≡ entry_place F g). omega arith)

small_root : (to : ℕ) → to < table_start → to / 2 ^ 22 < 2 ^ 16
small_root to user = let u : to < 255 * 2 ^ 30 = user in let r : to / 2 ^ 22 < 2 ^ 16 = omega arith in r

abbrev under : Bool → ℕ → ℕ
under b n = or_zero (if b then Some n else None)

word_new : (F : Flat) (g e to : ℕ) → IsPlace F g → to < table_start
    → word_of (placed F g e) to ≡ under (is_valid (root_at F to)) (slice_index (placed F g e).words (number_of (root_at F to) * 1024 + to / 2 ^ 12 % 1024))
word_new F g e to p user =
    ap (λ (r : ℕ). under (is_valid r) (slice_index (placed F g e).words (number_of r * 1024 + to / 2 ^ 12 % 1024))) (root_kept F g e (to / 2 ^ 22) p (small_root to user))

same_root : (to g : ℕ) → page_of to ≡ page_of g → to / 2 ^ 22 ≡ g / 2 ^ 22
same_root to g page =
    let s : to / 2 ^ 12 ≡ g / 2 ^ 12 = page in
    let a : g / 2 ^ 12 / 2 ^ 10 ≡ g / 2 ^ 22 = shr-shr g 12 10 in
    let b : to / 2 ^ 12 / 2 ^ 10 ≡ to / 2 ^ 22 = shr-shr to 12 10 in
    sym b ∙ ap (λ (n : ℕ). n / 2 ^ 10) s ∙ a

-- the entry of the page is the new one
pub word_same : (F : Flat) (g e to : ℕ) → IsPlace F g → to < table_start → page_of to ≡ page_of g → word_of (placed F g e) to ≡ e
word_same F g e to p user page =
    let r : to / 2 ^ 22 ≡ g / 2 ^ 22 = same_root to g page in
    let k_is : number_of (root_at F to) * 1024 + to / 2 ^ 12 % 1024 ≡ entry_place F g =
    ap (λ (n : ℕ). number_of (slice_index F.words n) * 1024 + to / 2 ^ 12 % 1024) r ∙ ap (λ (n : ℕ). number_of (root_at F g) * 1024 + n % 1024) page in
    word_new F g e to p user
    ∙ ap (λ (b : Bool). under b (slice_index (placed F g e).words (number_of (root_at F to) * 1024 + to / 2 ^ 12 % 1024))) (ap (λ (n : ℕ). is_valid (slice_index F.words n)) r ∙ p.valid)
    ∙ ap (λ (n : ℕ). slice_index (placed F g e).words n) k_is
    ∙ get_or-set_same F.words (entry_place F g) e 0 (within F g p)

apart_places : (F : Flat) (g to : ℕ) → IsPlace F g → to < table_start → page_of to ≢ page_of g → is_valid (root_at F to) ≡ true → number_of (root_at F to) * 1024 + to / 2 ^ 12 % 1024 ≢ entry_place F g
apart_places F g to p user apart valid same =
    let is : number_of (root_at F to) * 1024 + to / 2 ^ 12 % 1024 ≡ number_of (root_at F g) * 1024 + g / 2 ^ 12 % 1024 = same in
    let numbers : number_of (root_at F to) ≡ number_of (root_at F g) = omega arith in
    let roots : to / 2 ^ 22 ≡ g / 2 ^ 22 = p.tables.root_apart (root_index_of to) (root_index_of g) (index_small to user) (index_small g p.user) valid p.valid numbers in
    let a : g / 2 ^ 12 / 2 ^ 10 ≡ g / 2 ^ 22 = shr-shr g 12 10 in
    let b : to / 2 ^ 12 / 2 ^ 10 ≡ to / 2 ^ 22 = shr-shr to 12 10 in
    let pages : to / 2 ^ 12 ≡ g / 2 ^ 12 = omega arith in
    apart pages

word_other_in : (F : Flat) (g e to : ℕ) (b : Bool) → IsPlace F g → to < table_start → page_of to ≢ page_of g → is_valid (root_at F to) ≡ b
    → under b (slice_index (placed F g e).words (number_of (root_at F to) * 1024 + to / 2 ^ 12 % 1024)) ≡ under b (slice_index F.words (number_of (root_at F to) * 1024 + to / 2 ^ 12 % 1024))
word_other_in F g e to false p user apart valid = refl
word_other_in F g e to true p user apart valid = get_or-set_other F.words (entry_place F g) (number_of (root_at F to) * 1024 + to / 2 ^ 12 % 1024) e 0 (apart_places F g to p user apart valid)

-- and that of each other page is what it was
pub word_other : (F : Flat) (g e to : ℕ) → IsPlace F g → to < table_start → page_of to ≢ page_of g → word_of (placed F g e) to ≡ word_of F to
word_other F g e to p user apart = word_new F g e to p user ∙ word_other_in F g e to (is_valid (root_at F to)) p user apart refl

-- the entry of a page after the write: the new one, or what it was
pub data Split (F : Flat) (g e to : ℕ) : Type 0 where
  Same : page_of to ≡ page_of g → word_of (placed F g e) to ≡ e → Split F g e to
  Other : page_of to ≢ page_of g → word_of (placed F g e) to ≡ word_of F to → Split F g e to

pub split : (F : Flat) (g e to : ℕ) → IsPlace F g → to < table_start → Split F g e to
split F g e to p user =
    ⊎_elim
    (λ (same : page_of to ≡ page_of g). Same same (word_same F g e to p user same))
    (λ (apart : page_of to ≢ page_of g). Other apart (word_other F g e to p user apart))
    (cases_eq (page_of to) (page_of g))

is_frame : (F : Flat) (g e n : ℕ) → IsPageFrame F n → IsPageFrame (placed F g e) n
is_frame F g e n f = record { low = f.low; room = subst (λ (m : ℕ). n * 1024 + 1024 ≤ m) (sym (length-set F.words (entry_place F g) e)) f.room }

readable_in : (F : Flat) (caches : List (List (Option Line))) (g e to : ℕ) → HasTables F → MayWrite F caches g e → to < table_start → Split F g e to → IsTrue (is_readable (word_of (placed F g e) to))
readable_in F caches g e to ok w user (Same page is) = subst (λ (n : ℕ). IsTrue (is_readable n)) (sym is) w.readable
readable_in F caches g e to ok w user (Other page is) = subst (λ (n : ℕ). IsTrue (is_readable n)) (sym is) (ok.readable to user)

valid_is : (f e : ℕ) → f ≡ e → is_valid f ≡ true → is_valid e ≡ true
valid_is f e is valid = ap (λ (n : ℕ). is_valid n) (sym is) ∙ valid

frame_in : (F : Flat) (caches : List (List (Option Line))) (g e to : ℕ) → HasTables F → MayWrite F caches g e → to < table_start → is_valid (word_of (placed F g e) to) ≡ true → Split F g e to → IsPageFrame F (number_of (word_of (placed F g e) to))
frame_in F caches g e to ok w user valid (Same page is) = subst (λ (n : ℕ). IsPageFrame F (number_of n)) (sym is) (w.frame (valid_is (word_of (placed F g e) to) e is valid))
frame_in F caches g e to ok w user valid (Other page is) = subst (λ (n : ℕ). IsPageFrame F (number_of n)) (sym is) (ok.frame to user (valid_is (word_of (placed F g e) to) (word_of F to) is valid))

apart_in : (F : Flat) (caches : List (List (Option Line))) (g e to so : ℕ) → HasTables F → MayWrite F caches g e → to < table_start → so < table_start
    → is_valid (word_of (placed F g e) to) ≡ true → is_valid (word_of (placed F g e) so) ≡ true → number_of (word_of (placed F g e) to) ≡ number_of (word_of (placed F g e) so)
    → Split F g e to → Split F g e so → page_of to ≡ page_of so
apart_in F caches g e to so ok w user uso vf vg same (Same pf ff) (Same pg gg) = pf ∙ sym pg
apart_in F caches g e to so ok w user uso vf vg same (Same pf ff) (Other pg gg) =
    absurd (w.apart (valid_is (word_of (placed F g e) to) e ff vf) so uso pg (valid_is (word_of (placed F g e) so) (word_of F so) gg vg)
    (ap (λ (n : ℕ). number_of n) (sym gg) ∙ sym same ∙ ap (λ (n : ℕ). number_of n) ff))
apart_in F caches g e to so ok w user uso vf vg same (Other pf ff) (Same pg gg) =
    absurd (w.apart (valid_is (word_of (placed F g e) so) e gg vg) to user pf (valid_is (word_of (placed F g e) to) (word_of F to) ff vf)
    (ap (λ (n : ℕ). number_of n) (sym ff) ∙ same ∙ ap (λ (n : ℕ). number_of n) gg))
apart_in F caches g e to so ok w user uso vf vg same (Other pf ff) (Other pg gg) =
    ok.apart to so user uso (valid_is (word_of (placed F g e) to) (word_of F to) ff vf) (valid_is (word_of (placed F g e) so) (word_of F so) gg vg)
    (ap (λ (n : ℕ). number_of n) (sym ff) ∙ same ∙ ap (λ (n : ℕ). number_of n) gg)

table_in : (F : Flat) (caches : List (List (Option Line))) (g e to r : ℕ) → HasTables F → MayWrite F caches g e → to < table_start → r < user_roots → is_valid (word_of (placed F g e) to) ≡ true → is_valid (slice_index F.words r) ≡ true
    → number_of (word_of (placed F g e) to) ≡ number_of (slice_index F.words r) → Split F g e to → ⊥
table_in F caches g e to r ok w user small vf vr same (Same pf ff) = w.table (valid_is (word_of (placed F g e) to) e ff vf) r small vr (ap (λ (n : ℕ). number_of n) (sym ff) ∙ same)
table_in F caches g e to r ok w user small vf vr same (Other pf ff) =
    ok.table_apart to r user small (valid_is (word_of (placed F g e) to) (word_of F to) ff vf) vr (ap (λ (n : ℕ). number_of n) (sym ff) ∙ same)

pub tables-written : (F : Flat) (caches : List (List (Option Line))) (g e : ℕ) → IsPlace F g → MayWrite F caches g e → HasTables (placed F g e)
tables-written F caches g e p w =
    let ok : HasTables F = p.tables in
    let G : Flat = placed F g e in
    let kept : (r : ℕ) → r < user_roots → slice_index G.words r ≡ slice_index F.words r =
    λ (r : ℕ) (small : r < user_roots). let s : r < 255 * 2 ^ 8 = small in root_kept F g e r p (omega arith) in
    let v : (r : ℕ) → r < user_roots → is_valid (slice_index G.words r) ≡ true → is_valid (slice_index F.words r) ≡ true =
    λ (r : ℕ) (small : r < user_roots) (valid : is_valid (slice_index G.words r) ≡ true). valid_is (slice_index G.words r) (slice_index F.words r) (kept r small) valid in
    record {
      root = subst (λ (m : ℕ). 2 ^ 16 ≤ m) (sym (length-set F.words (entry_place F g) e)) ok.root;
      root_readable = λ (r : ℕ) (small : r < user_roots). subst (λ (n : ℕ). IsTrue (is_readable n)) (sym (kept r small)) (ok.root_readable r small);
      readable = λ (to : ℕ) (user : to < table_start). readable_in F caches g e to ok w user (split F g e to p user);
      root_frame = λ (r : ℕ) (small : r < user_roots) (valid : is_valid (slice_index G.words r) ≡ true).
          is_frame F g e (number_of (slice_index G.words r)) (subst (λ (n : ℕ). IsPageFrame F (number_of n)) (sym (kept r small)) (ok.root_frame r small (v r small valid)));
      frame = λ (to : ℕ) (user : to < table_start) (valid : is_valid (word_of G to) ≡ true). is_frame F g e (number_of (word_of G to)) (frame_in F caches g e to ok w user valid (split F g e to p user));
      root_apart = λ (r s : ℕ) (sr : r < user_roots) (ss : s < user_roots) (vr : is_valid (slice_index G.words r) ≡ true) (vs : is_valid (slice_index G.words s) ≡ true) (same : number_of (slice_index G.words r) ≡ number_of (slice_index G.words s)).
          ok.root_apart r s sr ss (v r sr vr) (v s ss vs) (ap (λ (n : ℕ). number_of n) (sym (kept r sr)) ∙ same ∙ ap (λ (n : ℕ). number_of n) (kept s ss));
      apart = λ (to so : ℕ) (user : to < table_start) (uso : so < table_start) (vf : is_valid (word_of G to) ≡ true) (vg : is_valid (word_of G so) ≡ true) (same : number_of (word_of G to) ≡ number_of (word_of G so)).
          apart_in F caches g e to so ok w user uso vf vg same (split F g e to p user) (split F g e so p uso);
      table_apart = λ (to r : ℕ) (user : to < table_start) (small : r < user_roots) (vf : is_valid (word_of G to) ≡ true) (vr : is_valid (slice_index G.words r) ≡ true) (same : number_of (word_of G to) ≡ number_of (slice_index G.words r)).
          table_in F caches g e to r ok w user small vf (v r small vr) (same ∙ ap (λ (n : ℕ). number_of n) (kept r small)) (split F g e to p user);
    }

-- lines stand where they did
stands_user : (F : Flat) (caches : List (List (Option Line))) (g e i s : ℕ) (line : Line) → MayWrite F caches g e → line_in caches i s ≡ Some line → block_address line.tag < table_start
    → is_valid (word_of F (block_address line.tag)) ≡ true → number_of (word_of F (block_address line.tag)) ≡ line.frame → Split F g e (block_address line.tag) → StandsIn (placed F g e) line.tag line.frame
stands_user F caches g e i s line w there low valid number (Same page is) =
    let suits = w.suits i s line there low page in
    OfPage low (ap (λ (n : ℕ). is_valid n) is ∙ suits.valid) (ap (λ (n : ℕ). number_of n) is ∙ suits.frame)
stands_user F caches g e i s line w there low valid number (Other page is) = OfPage low (ap (λ (n : ℕ). is_valid n) is ∙ valid) (ap (λ (n : ℕ). number_of n) is ∙ number)

root_of : (F : Flat) (g e block : ℕ) → IsPlace F g → table_start ≤ block_address block → block_address block < root_start → slice_index (placed F g e).words (root_word_of (block_address block)) ≡ slice_index F.words (root_word_of (block_address block))
root_of F g e block p from to = let s : root_word_of (block_address block) < 255 * 2 ^ 8 = root_small block from to in root_kept F g e (root_word_of (block_address block)) p (omega arith)

stands_in : (F : Flat) (caches : List (List (Option Line))) (g e i s : ℕ) (line : Line) → IsPlace F g → MayWrite F caches g e → line_in caches i s ≡ Some line → StandsIn F line.tag line.frame → StandsIn (placed F g e) line.tag line.frame
stands_in F caches g e i s line p w there (OfPage low valid number) = stands_user F caches g e i s line w there low valid number (split F g e (block_address line.tag) p low)
stands_in F caches g e i s line p w there (OfTable from to valid number) =
    let r = root_of F g e line.tag p from to in
    OfTable from to (ap (λ (n : ℕ). is_valid n) r ∙ valid) (ap (λ (n : ℕ). number_of n) r ∙ number)
stands_in F caches g e i s line p w there (OfRoot from to frame) = OfRoot from to frame

pub mapped-written : (F : Flat) (caches : List (List (Option Line))) (g e : ℕ) → IsPlace F g → MayWrite F caches g e → AreMapped F caches → AreMapped (placed F g e) caches
mapped-written F caches g e p w mapped i s line there = stands_in F caches g e i s line p w there (mapped i s line there)

present_in : (F : Flat) (caches : List (List (Option Line))) (g e i s : ℕ) (line : Line) → MayWrite F caches g e → line_in caches i s ≡ Some line → block_address line.tag < table_start → IsPresent F line → Split F g e (block_address line.tag) → IsPresent (placed F g e) line
present_in F caches g e i s line w there low was (Same page is) =
    let suits = w.suits i s line there low page in
    record {
      valid = ap (λ (n : ℕ). is_valid n) is ∙ suits.valid;
      frame = ap (λ (n : ℕ). number_of n) is ∙ suits.frame;
      prot = ap (λ (n : ℕ). protection_of n) is ∙ suits.prot;
      dirty = λ (d : line.dirty ≡ true). ap (λ (n : ℕ). is_dirty n) is ∙ suits.dirty d;
    }
present_in F caches g e i s line w there low was (Other page is) = record {
  valid = ap (λ (n : ℕ). is_valid n) is ∙ was.valid;
  frame = ap (λ (n : ℕ). number_of n) is ∙ was.frame;
  prot = ap (λ (n : ℕ). protection_of n) is ∙ was.prot;
  dirty = λ (d : line.dirty ≡ true). ap (λ (n : ℕ). is_dirty n) is ∙ was.dirty d;
}

pub present-written : (F : Flat) (caches : List (List (Option Line))) (g e : ℕ) → IsPlace F g → MayWrite F caches g e → ArePresent F caches → ArePresent (placed F g e) caches
present-written F caches g e p w present = record {
  user = λ (i s : ℕ) (line : Line) (there : line_in caches i s ≡ Some line) (low : block_address line.tag < table_start).
      present_in F caches g e i s line w there low (present.user i s line there low) (split F g e (block_address line.tag) p low);
  table = λ (i s : ℕ) (line : Line) (there : line_in caches i s ≡ Some line) (from : table_start ≤ block_address line.tag) (to : block_address line.tag < root_start).
      ap (λ (n : ℕ). number_of n) (root_of F g e line.tag p from to) ∙ present.table i s line there from to;
  root = present.root;
  unowned = present.unowned;
}

-- all addresses of a page have its entry
pub word_page : (F : Flat) (to g : ℕ) → page_of to ≡ page_of g → word_of F to ≡ word_of F g
word_page F to g page =
    let s : to / 2 ^ 12 ≡ g / 2 ^ 12 = page in
    ap (λ (r : ℕ). under (is_valid (slice_index F.words r)) (slice_index F.words (number_of (slice_index F.words r) * 1024 + to / 2 ^ 12 % 1024))) (same_root to g page)
    ∙ ap (λ (n : ℕ). under (is_valid (slice_index F.words (g / 2 ^ 22))) (slice_index F.words (number_of (slice_index F.words (g / 2 ^ 22)) * 1024 + n % 1024))) s

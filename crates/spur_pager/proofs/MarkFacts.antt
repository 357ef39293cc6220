-- One bit of a page's entry is set or cleared: the entry may be written.
use Rattle.std.proofs.Common.{◌≡◌, ◌≢◌, ◌∙◌, ℕ, ◌+◌, ◌*◌, ◌/◌, ◌%◌, ◌^◌, ◌<◌, ◌==◌, inl, inr, Bool, true, if◌then◌else◌, ap, sym, subst, List, slice_index, Option, Some, arith}
use Rattle.std.specs.Prelude.{IsTrue}
use Rattle.std.specs.Int.{bit_at}
use Rattle.std.proofs.lemmas.Bool.{eq-eqb}
use Rattle.spur_addr.specs.Address.{page_of, table_start}
use Rattle.spur_addr.specs.PageEntry.{is_dirty, is_on_swap, is_readable, is_valid, number_of, protection_of, with_bit}
use Rattle.spur_addr.specs.declared.page_entry.Protection.TheVariants.{Nothing, ReadOnly, ReadWrite}
use Rattle.spur_addr.proofs.BitFacts.{bit_at-with_other, shr-with, readable-with}
use Rattle.spur_cache.specs.declared.line.Line.{Line}
use Rattle.spur_flat.specs.declared.flat.Flat.{Flat}
use Rattle.spur_flat.specs.Pager.{word_of}
use Rattle.spur_bus.specs.Boards.{line_in}
use Rattle.spur_walk.specs.Tables.{HasTables, IsPageFrame, block_address, user_roots}
use Rattle.spur_walk.specs.Present.{ArePresent}
use Rattle.spur_pager.specs.Writes.{MayWrite}
use Rattle.spur_pager.proofs.PlaceFacts.{word_page}

-- the new entry has the same frame and protection, is valid as the old one was, and is dirty if that was
pub record IsMarked (e new : ℕ) : Type 0 where
  pub readable : IsTrue (is_readable e) → IsTrue (is_readable new)
  pub valid : is_valid new ≡ is_valid e
  pub on_swap : is_on_swap new ≡ is_on_swap e
  pub number : number_of new ≡ number_of e
  pub prot : protection_of new ≡ protection_of e
  pub dirty : is_dirty e ≡ true → is_dirty new ≡ true

pub may_mark : (F : Flat) (caches : List (List (Option Line))) (g e new : ℕ) → HasTables F → ArePresent F caches → g < table_start → word_of F g ≡ e → is_valid e ≡ true → IsMarked e new → MayWrite F caches g new
may_mark F caches g e new ok present user is valid marked =
    let valid_g : is_valid (word_of F g) ≡ true = ap (λ (n : ℕ). is_valid n) is ∙ valid in
    let number_g : number_of new ≡ number_of (word_of F g) = marked.number ∙ ap (λ (n : ℕ). number_of n) (sym is) in
    record {
      readable = marked.readable (subst (λ (n : ℕ). IsTrue (is_readable n)) is (ok.readable g user));
      suits = λ (i s : ℕ) (line : Line) (there : line_in caches i s ≡ Some line) (low : block_address line.tag < table_start) (page : page_of (block_address line.tag) ≡ page_of g).
          let was = present.user i s line there low in
          let same : word_of F (block_address line.tag) ≡ e = word_page F (block_address line.tag) g page ∙ is in
          record {
            valid = marked.valid ∙ valid;
            frame = marked.number ∙ ap (λ (n : ℕ). number_of n) (sym same) ∙ was.frame;
            prot = marked.prot ∙ ap (λ (n : ℕ). protection_of n) (sym same) ∙ was.prot;
            dirty = λ (d : line.dirty ≡ true). marked.dirty (ap (λ (n : ℕ). is_dirty n) (sym same) ∙ was.dirty d);
          };
      frame = λ (v : is_valid new ≡ true). subst (λ (n : ℕ). IsPageFrame F n) (sym number_g) (ok.frame g user valid_g);
      apart = λ (v : is_valid new ≡ true) (to : ℕ) (uto : to < table_start) (page : page_of to ≢ page_of g) (vt : is_valid (word_of F to) ≡ true) (same : number_of (word_of F to) ≡ number_of new).
          page (ok.apart to g uto user vt valid_g (same ∙ number_g));
      table = λ (v : is_valid new ≡ true) (r : ℕ) (small : r < user_roots) (vr : is_valid (slice_index F.words r) ≡ true) (same : number_of new ≡ number_of (slice_index F.words r)).
          ok.table_apart g r user small valid_g vr (sym number_g ∙ same);
    }

prot_of_field : (a b : ℕ) → a / 2 ^ 3 % 2 ^ 2 ≡ b / 2 ^ 3 % 2 ^ 2 → protection_of a ≡ protection_of b
prot_of_field a b h = ap (λ (n : ℕ). if n == 0 then Nothing else if n == 1 then ReadOnly else ReadWrite) h

low_field : (e k : ℕ) (to : Bool) → k < 3 → with_bit e k to / 2 ^ 3 % 2 ^ 2 ≡ e / 2 ^ 3 % 2 ^ 2
low_field e k to low = ap (λ (n : ℕ). n % 2 ^ 2) (shr-with e k 3 to low)

leaving_field : (e : ℕ) → with_bit e 6 true / 2 ^ 3 % 2 ^ 2 ≡ e / 2 ^ 3 % 2 ^ 2
leaving_field e = omega arith

pub same_bit : (e k j : ℕ) (to : Bool) → (j ≡ k → ⊥) → (bit_at (with_bit e k to) j == 1) ≡ (bit_at e j == 1)
same_bit e k j to apart = ap (λ (n : ℕ). n == 1) (bit_at-with_other e k j to apart)

pub referenced_marks : (e : ℕ) (to : Bool) → IsMarked e (with_bit e 1 to)
referenced_marks e to = record {
  readable = λ (r : IsTrue (is_readable e)). subst (λ (b : Bool). IsTrue b) (sym (readable-with e 1 to (inl (omega arith)))) r;
  valid = same_bit e 1 0 to (λ h. cc);
  on_swap = same_bit e 1 5 to (λ h. cc);
  number = shr-with e 1 12 to (omega arith);
  prot = prot_of_field (with_bit e 1 to) e (low_field e 1 to (omega arith));
  dirty = λ (d : is_dirty e ≡ true). same_bit e 1 2 to (λ h. cc) ∙ d;
}

dirty_set : (e : ℕ) → is_dirty (with_bit e 2 true) ≡ true
dirty_set e =
    let r : ((e / 2 ^ 3 * 2 + 1) * 2 ^ 2 + e % 2 ^ 2) / 2 ^ 2 % 2 ≡ 1 = omega arith in
    eq-eqb (bit_at (with_bit e 2 true) 2) 1 r

pub dirty_marks : (e : ℕ) → IsMarked e (with_bit e 2 true)
dirty_marks e = record {
  readable = λ (r : IsTrue (is_readable e)). subst (λ (b : Bool). IsTrue b) (sym (readable-with e 2 true (inl (omega arith)))) r;
  valid = same_bit e 2 0 true (λ h. cc);
  on_swap = same_bit e 2 5 true (λ h. cc);
  number = shr-with e 2 12 true (omega arith);
  prot = prot_of_field (with_bit e 2 true) e (low_field e 2 true (omega arith));
  dirty = λ (d : is_dirty e ≡ true). dirty_set e;
}

pub leaving_marks : (e : ℕ) → IsMarked e (with_bit e 6 true)
leaving_marks e = record {
  readable = λ (r : IsTrue (is_readable e)). subst (λ (b : Bool). IsTrue b) (sym (readable-with e 6 true (inr (omega arith, omega arith)))) r;
  valid = same_bit e 6 0 true (λ h. cc);
  on_swap = same_bit e 6 5 true (λ h. cc);
  number = shr-with e 6 12 true (omega arith);
  prot = prot_of_field (with_bit e 6 true) e (leaving_field e);
  dirty = λ (d : is_dirty e ≡ true). same_bit e 6 2 true (λ h. cc) ∙ d;
}

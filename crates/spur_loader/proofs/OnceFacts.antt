-- Pages that are declared once.
use Rattle.std.specs.Prelude.{slice_get}
use Rattle.std.proofs.Common.{◌≡◌, ◌≢◌, ℕ, List, [], ◌∷◌, ◌++◌, Some, None, Option, is_some, length, refl, sym, ap, ◌∙◌, subst, arith, if◌then◌else◌, zero, suc}
use Rattle.std.proofs.lemmas.List.{append_assoc, append-nil}
use Rattle.std.specs.Option.{option_map}
use Rattle.spur_addr.specs.Address.{page_address}
use Rattle.spur_object.specs.declared.unit.PageText.{PageText}
use Rattle.spur_loader.specs.declared.fault.LoadFault.TheVariants.{PageTwice}
use Rattle.spur_loader.specs.Opening.{slot_of}
use Rattle.spur_loader.specs.Faults.{first_again, again_fault}
use Rattle.spur_loader.proofs.ListFacts.{AreApart}
use Rattle.spur_loader.proofs.EntryWords.{page_key, IsEntryWord, Undeclared, Declared, entry_cases}

-- no member of a list has a key that has no slot
none_has : (pages : List PageText) (p k : ℕ) (page : PageText) → slot_of pages p ≡ None → slice_get pages k ≡ Some page → IsEntryWord pages p → page.page ≢ p
none_has pages p k page none at (Undeclared slot nil lacks) = lacks k page at
none_has pages p k page none at (Declared i other slot there is value) = let e : None ≡ Some i = sym none ∙ slot in cc

-- a member of a list with one more
data IsPushed (front : List PageText) (last : PageText) (k : ℕ) (x : PageText) : Type 0 where
  InFront : slice_get front k ≡ Some x → IsPushed front last k x
  IsLast : k ≡ length front → x ≡ last → IsPushed front last k x

pushed_more : (front : List PageText) (y last x : PageText) (k : ℕ) → IsPushed front last k x → IsPushed (y ∷ front) last (suc k) x
pushed_more front y last x k (InFront at) = InFront at
pushed_more front y last x k (IsLast place same) = IsLast (let l : suc k ≡ length (y ∷ front) = omega arith in l) same

pushed : (front : List PageText) (last x : PageText) (k : ℕ) → slice_get (front ++ last ∷ []) k ≡ Some x → IsPushed front last k x
pushed [] last x zero at = IsLast refl (let e : Some last ≡ Some x = at in cc)
pushed [] last x (suc k) at = cc
pushed (y ∷ front) last x zero at = InFront at
pushed (y ∷ front) last x (suc k) at = pushed_more front y last x k (pushed front last x k at)

apart_by : (front : List PageText) (last : PageText) (i j : ℕ) (x y : PageText) → AreApart page_key front → slot_of front last.page ≡ None
    → IsPushed front last i x → IsPushed front last j y → page_key x ≡ page_key y → i ≡ j
apart_by front last i j x y apart none (InFront a) (InFront b) same = apart.apart i j x y a b same
apart_by front last i j x y apart none (InFront a) (IsLast b e) same =
    absurd (none_has front last.page i x none a (entry_cases front last.page) (same ∙ ap page_key e))
apart_by front last i j x y apart none (IsLast a e) (InFront b) same =
    absurd (none_has front last.page j y none b (entry_cases front last.page) (sym same ∙ ap page_key e))
apart_by front last i j x y apart none (IsLast a e) (IsLast b f) same = a ∙ sym b

pub apart_push : (front : List PageText) (last : PageText) → AreApart page_key front → slot_of front last.page ≡ None → AreApart page_key (front ++ last ∷ [])
apart_push front last apart none = record {
  apart = λ i j x y a b same. apart_by front last i j x y apart none (pushed front last x i a) (pushed front last y j b) same;
}

once_apart_by : (before : List PageText) (page : PageText) (more : List PageText) (o : Option ℕ) → slot_of before page.page ≡ o
    → (if is_some o then Some page else first_again (before ++ page ∷ []) more) ≡ None → AreApart page_key before
    → (first_again (before ++ page ∷ []) more ≡ None → AreApart page_key (before ++ page ∷ []) → AreApart page_key (before ++ page ∷ [] ++ more))
    → AreApart page_key (before ++ page ∷ [] ++ more)
once_apart_by before page more (Some k) slot none apart later = let e : Some page ≡ None = none in cc
once_apart_by before page more None slot none apart later = later none (apart_push before page apart slot)

pub once_apart : (before pages : List PageText) → first_again before pages ≡ None → AreApart page_key before → AreApart page_key (before ++ pages)
once_apart before [] none apart = subst (AreApart page_key) (sym (append-nil before)) apart
once_apart before (page ∷ more) none apart =
    subst (AreApart page_key) (append_assoc before (page ∷ []) more)
    (once_apart_by before page more (slot_of before page.page) refl none apart (λ e a. once_apart (before ++ page ∷ []) more e a))

again_none : (o : Option PageText) → option_map (λ p. PageTwice (page_address p.page)) o ≡ None → o ≡ None
again_none None e = refl
again_none (Some page) e = cc

-- where no page is declared again, no two have the same number
pub pages_apart : (pages : List PageText) → again_fault pages ≡ None → AreApart page_key pages
pages_apart pages once = once_apart [] pages (again_none (first_again [] pages) once) record { apart = λ i j x y a b same. cc }

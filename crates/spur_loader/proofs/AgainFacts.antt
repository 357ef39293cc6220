-- The first page that is declared again.
use Rattle.std.specs.Prelude.{slice_get}
use Rattle.std.proofs.Common.{◌≡◌, ℕ, zero, suc, ◌<◌, List, [], ◌∷◌, ◌++◌, Option, Some, None, is_some, length, refl, ap, ◌∙◌, subst, arith, if◌then◌else◌}
use Rattle.std.proofs.lemmas.List.{append_assoc}
use Rattle.std.proofs.lemmas.Option.{slice_get_within}
use Rattle.spur_object.specs.declared.unit.PageText.{PageText}
use Rattle.spur_loader.specs.Opening.{slot_of}
use Rattle.spur_loader.specs.Faults.{first_again}
use Rattle.spur_loader.specs.FaultLaws.{AreOnce, IsFirstAgain, AgainIsFirst, NoneAgain}
use Rattle.spur_loader.proofs.ListFacts.{AreApart}
use Rattle.spur_loader.proofs.EntryWords.{page_key, slot_is}
use Rattle.spur_loader.proofs.OnceFacts.{apart_push, once_apart}

get_front : (front rest : List PageText) (k : ℕ) (x : PageText) → slice_get front k ≡ Some x → slice_get (front ++ rest) k ≡ Some x
get_front [] rest k x at = cc
get_front (y ∷ front) rest zero x at = at
get_front (y ∷ front) rest (suc k) x at = get_front front rest k x at

get_mid : (front : List PageText) (x : PageText) (rest : List PageText) → slice_get (front ++ x ∷ rest) (length front) ≡ Some x
get_mid [] x rest = refl
get_mid (y ∷ front) x rest = get_mid front x rest

front_get : (front rest : List PageText) (k : ℕ) (x : PageText) → k < length front → slice_get (front ++ rest) k ≡ Some x → slice_get front k ≡ Some x
front_get [] rest k x below at = absurd (let l : k < 0 = below in omega arith)
front_get (y ∷ front) rest zero x below at = at
front_get (y ∷ front) rest (suc k) x below at = front_get front rest k x (let l : suc k < suc (length front) = below in omega arith) at

here : (before : List PageText) (x page : PageText) (rest : List PageText) (k : ℕ) → AreApart page_key before → slot_of before x.page ≡ Some k → x ≡ page
    → IsFirstAgain (before ++ x ∷ rest) page
here before x page rest k apart slot same =
    let s = slot_is before x.page k slot in
    record {
      position = length before;
      at = get_mid before x rest ∙ ap Some same;
      earlier = k;
      before = slice_get_within before k s.page s.at;
      other = s.page;
      there = get_front before (x ∷ rest) k s.page s.at;
      same = s.is ∙ ap page_key same;
      once = record {
        apart = λ i j a b low-i low-j at-i at-j e.
            apart.apart i j a b (front_get before (x ∷ rest) i a low-i at-i) (front_get before (x ∷ rest) j b low-j at-j) e;
      };
    }

again_by : (before : List PageText) (x : PageText) (rest : List PageText) (page : PageText) (o : Option ℕ) → slot_of before x.page ≡ o
    → (if is_some o then Some x else first_again (before ++ x ∷ []) rest) ≡ Some page → AreApart page_key before
    → (first_again (before ++ x ∷ []) rest ≡ Some page → AreApart page_key (before ++ x ∷ []) → IsFirstAgain (before ++ x ∷ rest) page)
    → IsFirstAgain (before ++ x ∷ rest) page
again_by before x rest page (Some k) slot e apart later = let f : Some x ≡ Some page = e in here before x page rest k apart slot (let g : x ≡ page = cc in g)
again_by before x rest page None slot e apart later = later e (apart_push before x apart slot)

again_first : (before pages : List PageText) (page : PageText) → first_again before pages ≡ Some page → AreApart page_key before → IsFirstAgain (before ++ pages) page
again_first before [] page e apart = let f : None ≡ Some page = e in cc
again_first before (x ∷ rest) page e apart = again_by before x rest page (slot_of before x.page) refl e apart
    (λ f a. subst (λ (ps : List PageText). IsFirstAgain ps page) (append_assoc before (x ∷ []) rest) (again_first (before ++ x ∷ []) rest page f a))

none_before : AreApart page_key []
none_before = record { apart = λ i j x y a b same. cc }

pub again_is_first : AgainIsFirst
again_is_first pages page e = again_first [] pages page e none_before

once_none : (pages : List PageText) → AreOnce pages (length pages) → (o : Option PageText) → first_again [] pages ≡ o → o ≡ None
once_none pages once None e = refl
once_none pages once (Some page) e =
    let f = again_is_first pages page e in
    let low : f.position < length pages = slice_get_within pages f.position page f.at in
    let before = f.before in
    let lower : f.earlier < length pages = omega arith in
    let same : f.earlier ≡ f.position = once.apart f.earlier f.position f.other page lower low f.there f.at f.same in
    absurd (let l : f.earlier < f.position = f.before in omega arith)

pub none_again : NoneAgain
none_again pages = (
  (λ none. record { apart = λ i j x y low-i low-j at-i at-j same. (once_apart [] pages none none_before).apart i j x y at-i at-j same }),
  (λ once. once_none pages once (first_again [] pages) refl),
)

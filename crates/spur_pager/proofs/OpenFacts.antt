-- Entries that are open for a page, and the entry of the pager that they serve.
use Rattle.std.proofs.Common.{◌≡◌, ◌∙◌, ℕ, ◌+◌, ◌<◌, ◌≤◌, Bool, if◌then◌else◌, ap, sym, refl, subst, List, [], ◌∷◌, ◌++◌, length, replicate, slice_set, Option, Some, None, arith}
use Rattle.std.specs.List.{AllByRecursion}
use Rattle.std.proofs.lemmas.Bool.{lt-ltb}
use Rattle.std.proofs.lemmas.List as L
use Rattle.std.proofs.lemmas.List.{get_or-set_same, length-set}
use Rattle.spur_flat.specs.declared.entry.Entry.{Entry}
use Rattle.spur_flat.specs.declared.entry.Entry.TheVariants as entry
use Rattle.spur_flat.specs.Blocks.{Apart, Opens, Role, Serves, role_of}
use Rattle.spur_flat.specs.Needed.{TooMany, lack_in, lack_of, open_at, open_in, open_on}
use Rattle.spur_flat.specs.State.{IsNeeded, open_after}
use Rattle.spur_bus.specs.Stand.{IsOfBus}
use Rattle.spur_walk.specs.Laws.{IsServing}
use Rattle.spur_walk.proofs.OpenedFacts.{all-push, small_length, set_again, none_open, none_set}

-- what a step's entry is to its board's open entries: one more, or nothing
pub data IsNeutral (e : Entry) : Role → Type 0 where
  AsOpens : IsNeutral e Opens
  AsApart : IsNeutral e Apart

neutral : (e : Entry) → IsOfBus e → IsNeutral e (role_of e)
neutral (entry.Fill b l n at) is = AsOpens
neutral (entry.Claim b at) is = AsOpens
neutral (entry.WriteBack b at) is = AsOpens
neutral (entry.Refresh b at) is = AsApart
neutral (entry.BlockFlush b holder at) is = AsApart
neutral (entry.Load b at value) is = absurd is
neutral (entry.Store b at value) is = absurd is
neutral (entry.Tas b at old) is = absurd is
neutral (entry.Fault b kind access at) is = absurd is
neutral (entry.Leave b at) is = absurd is
neutral (entry.PageOut b at) is = absurd is
neutral (entry.PageIn b at frame) is = absurd is
neutral (entry.SetRef b at) is = absurd is
neutral (entry.SetDirty b at) is = absurd is
neutral (entry.ClearRef b at) is = absurd is

-- the open entries of board b after more entries of it
pub record OpensTo (b lines : ℕ) (blocks : List ℕ) (owned : Option ℕ) (opened : List (List Entry)) (es : List Entry) : Type 0 where
  pub now : List Entry
  pub serving : AllByRecursion (IsServing b lines blocks owned) now
  pub after : open_after opened es ≡ slice_set opened b now
  pub needed : IsNeeded lines opened es

-- one more entry, by its role
record Opened (b lines : ℕ) (blocks : List ℕ) (owned : Option ℕ) (os : List Entry) (e : Entry) (role : Role) : Type 0 where
  pub serving : AllByRecursion (IsServing b lines blocks owned) (open_in os e role)
  pub lacks : lack_in lines os role ≡ None
  pub short : length (open_in os e role) ≤ length os + 1

opened_one : (b lines : ℕ) (blocks : List ℕ) (owned : Option ℕ) (os : List Entry) (e : Entry) (role : Role) → IsNeutral e role → IsServing b lines blocks owned e → AllByRecursion (IsServing b lines blocks owned) os → length os < 6
    → Opened b lines blocks owned os e role
opened_one b lines blocks owned os e Opens AsOpens one all few = record {
  serving = all-push (IsServing b lines blocks owned) os e all one;
  lacks = ap (λ (t : Bool). if t then None else Some TooMany) (lt-ltb (length os) 6 few);
  short = let is : length (os ++ e ∷ []) ≡ length os + 1 = small_length os e in omega arith;
}
opened_one b lines blocks owned os e (Serves x y) is one all few = elim is [ ]
opened_one b lines blocks owned os e Apart AsApart one all few = record { serving = all; lacks = refl; short = omega arith }

opened_from : (b lines : ℕ) (blocks : List ℕ) (owned : Option ℕ) (base : List (List Entry)) (os es : List Entry) → b < length base → AllByRecursion (IsServing b lines blocks owned) os → AllByRecursion (IsServing b lines blocks owned) es
    → length os + length es ≤ 6 → OpensTo b lines blocks owned (slice_set base b os) es
opened_from b lines blocks owned base os [] within all more few = record {
  now = os;
  serving = all;
  after = sym (set_again base b os os);
  needed = tt;
}
opened_from b lines blocks owned base os (e ∷ es) within all more few =
    let opened : List (List Entry) = slice_set base b os in
    let there : open_at opened b ≡ os = get_or-set_same base b os [] within in
    let one = opened_one b lines blocks owned os e (role_of e) (neutral e more.0.bus) more.0 all (omega arith) in
    let short : length (open_in os e (role_of e)) ≤ length os + 1 = one.short in
    let next : open_on opened e ≡ slice_set base b (open_in os e (role_of e)) =
    ap (λ (n : ℕ). slice_set opened n (open_in (open_at opened n) e (role_of e))) more.0.board
    ∙ ap (λ (l : List Entry). slice_set opened b (open_in l e (role_of e))) there
    ∙ set_again base b os (open_in os e (role_of e)) in
    let lacks : lack_of lines opened e ≡ None =
    ap (λ (n : ℕ). lack_in lines (open_at opened n) (role_of e)) more.0.board ∙ ap (λ (l : List Entry). lack_in lines l (role_of e)) there ∙ one.lacks in
    let rest = opened_from b lines blocks owned base (open_in os e (role_of e)) es within one.serving more.1 (omega arith) in
    record {
      now = rest.now;
      serving = rest.serving;
      after = ap (λ (o : List (List Entry)). open_after o es) next ∙ rest.after ∙ set_again base b (open_in os e (role_of e)) rest.now ∙ sym (set_again base b os rest.now);
      needed = (lacks, subst (λ (o : List (List Entry)). IsNeeded lines o es) (sym next) rest.needed);
    }

-- from where nothing is open
pub opens : (n b lines : ℕ) (blocks : List ℕ) (owned : Option ℕ) (es : List Entry) → b < n → AllByRecursion (IsServing b lines blocks owned) es → length es ≤ 6 → OpensTo b lines blocks owned (replicate n []) es
opens n b lines blocks owned es within all few =
    subst (λ (o : List (List Entry)). OpensTo b lines blocks owned o es) (none_set n b)
    (opened_from b lines blocks owned (replicate n []) [] es (subst (λ (k : ℕ). b < k) (sym (L.length-replicate n [])) within) tt all (omega arith))

-- an entry that has nothing to do with what is open leaves nothing open
pub none_same : (n b : ℕ) → slice_set (none_open n) b (open_at (none_open n) b) ≡ none_open n
none_same n b = L.set-get_or (none_open n) b []

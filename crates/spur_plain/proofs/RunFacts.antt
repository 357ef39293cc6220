-- Paging is invisible, of a whole run.
use Rattle.std.proofs.Common.{◌≡◌, ◌∙◌, ℕ, ◌⊎◌, inl, inr, Bool, true, false, refl, sym, ap, subst, List, [], ◌∷◌, ◌++◌, cond, filter}
use Rattle.std.specs.Prelude.{All}
use Rattle.std.specs.List.{AllByRecursion}
use Rattle.std.proofs.lemmas.List.Elements.{All-filter, recursion_from_All}
use Rattle.spur_flat.specs.declared.entry.Entry.{Entry}
use Rattle.spur_flat.specs.declared.entry.Entry.TheVariants.{Fault}
use Rattle.spur_flat.specs.History.{is_own, own_entries}
use Rattle.spur_cpu.specs.Meaning.{Meaning}
use Rattle.spur_cpu.specs.After.{Course, after, begun}
use Rattle.spur_plain.specs.PlainMemory.{PlainMemory}
use Rattle.spur_plain.specs.PlainHistory.{IsAnswered, done_entries, is_plain, plain_entries}
use Rattle.spur_plain.specs.Served.{ByAccesses, ByOneFault}
use Rattle.spur_plain.specs.Runs.{ArePlainBoards, ByPlainFault, PlainOfOwn, RunIsPlain, RunIsPlainButValues}
use Rattle.spur_plain.specs.Virtual.{virtual}
use Rattle.spur_plain.proofs.HistoryFacts.{plain-is-answered}
use Rattle.spur_plain.proofs.InvisibleFacts.{paging-is-invisible, paging-is-invisible-but-values}
use Rattle.spur_plain.proofs.ServedFacts.{accesses-and-one-fault, served-drop-out}

-- two filters in either order
swap_step : (p q : Entry → Bool) (e : Entry) (es : List Entry) (a b : Bool) → p e ≡ a → q e ≡ b → filter p (filter q es) ≡ filter q (filter p es)
    → filter p (cond b (e ∷ filter q es) (filter q es)) ≡ filter q (cond a (e ∷ filter p es) (filter p es))
swap_step p q e es true true x y rest =
    ap (λ (c : Bool). cond c (e ∷ filter p (filter q es)) (filter p (filter q es))) x ∙ ap (λ (xs : List Entry). e ∷ xs) rest
    ∙ sym (ap (λ (c : Bool). cond c (e ∷ filter q (filter p es)) (filter q (filter p es))) y)
swap_step p q e es true false x y rest = rest ∙ sym (ap (λ (c : Bool). cond c (e ∷ filter q (filter p es)) (filter q (filter p es))) y)
swap_step p q e es false true x y rest = ap (λ (c : Bool). cond c (e ∷ filter p (filter q es)) (filter p (filter q es))) x ∙ rest
swap_step p q e es false false x y rest = rest

swapped : (p q : Entry → Bool) (es : List Entry) → filter p (filter q es) ≡ filter q (filter p es)
swapped p q [] = refl
swapped p q (e ∷ es) = swap_step p q e es (p e) (q e) refl refl (swapped p q es)

pub plain-of-own : PlainOfOwn
plain-of-own history b = swapped (is_own b) is_plain history

last_of : (P : Entry → Type 0) (xs : List Entry) (e : Entry) → AllByRecursion P (xs ++ e ∷ []) → P e
last_of P [] e all = all.0
last_of P (x ∷ xs) e all = last_of P xs e all.1

module _ {S : Type 0} (m : Meaning S) where
  -- the last of a board's plain entries is answered as all are
  plain_way : (M : PlainMemory) (es : List Entry) (segs : List ℕ) (budget : ℕ) (c d : Course S) (n : ℕ) → All (IsAnswered M) (plain_entries es)
      → ByAccesses m segs budget c d es n ⊎ ByOneFault m segs budget c d es n → ByAccesses m segs budget c d es n ⊎ ByPlainFault m M segs budget c d es n
  plain_way M es segs budget c d n all (inl a) = inl a
  plain_way M es segs budget c d n all (inr f) =
      inr (record {
        fault = f;
        answer = last_of (IsAnswered M) (done_entries es) (Fault f.board f.kind f.access f.at)
            (subst (AllByRecursion (IsAnswered M)) f.entries (recursion_from_All (IsAnswered M) (plain_entries es) all));
      })

  plain_boards : (M : PlainMemory) (history : List Entry) → All (IsAnswered M) (plain_entries history) → ArePlainBoards m M history
  plain_boards M history all b segs budget first d n comes =
      let es : List Entry = own_entries history b in
      let mine : All (IsAnswered M) (plain_entries es) =
      subst (λ (xs : List Entry). All (IsAnswered M) xs) (plain-of-own history b) (All-filter (is_own b) (IsAnswered M) (plain_entries history) all) in
      record {
        comes = ap (λ (xs : List Entry). after m segs budget (begun first) xs n) (plain-of-own history b) ∙ served-drop-out m segs budget (begun first) d es n comes;
        way = plain_way M es segs budget (begun first) d n mine (accesses-and-one-fault m segs budget (begun first) d es n (λ kind at e. absurd cc) comes);
      }

  pub run-is-plain : RunIsPlain m
  run-is-plain F history ok clean small legal =
      let all = paging-is-invisible F history ok clean small legal in
      record { memory = all; boards = plain_boards (virtual F) history (plain-is-answered (virtual F) (plain_entries history) all.plain) }

  pub run-is-plain-but-values : RunIsPlainButValues m
  run-is-plain-but-values F history ok clean small legal =
      let all = paging-is-invisible-but-values F history ok clean small legal in
      record { memory = all; boards = plain_boards (virtual F) history all.answered }

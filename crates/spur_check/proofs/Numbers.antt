-- The numbers of the open entries are those of these entries in the history.
use Rattle.std.proofs.Common.{◌≡◌, ℕ, zero, suc, ◌+◌, ◌<◌, ◌≤◌, inl, inr, List, [], ◌∷◌, ◌++◌, Option, Some, refl, sym, ap, ◌∙◌, subst, arith, length, map, replicate, slice_set, get_or, append_assoc, append-nil, length-set}
use Rattle.std.specs.Prelude.{slice_get}
use Rattle.std.proofs.lemmas.Bool.{cases_eq, cases_lt}
use Rattle.std.proofs.lemmas.List.{get_or-set_same, get_or-set_other, get_or_past, length-append, length-replicate, map-append}
use Rattle.spur_flat.specs.declared.entry.Entry.{Entry}
use Rattle.spur_flat.specs.Blocks.{Role, Opens, Serves, Apart, board_of, role_of}
use Rattle.spur_flat.specs.Needed.{numbers_at, numbers_in, numbers_on, open_at, open_in, open_on}
use Rattle.spur_cpu.specs.Meaning.{Meaning}
use Rattle.spur_cpu.specs.Plain.{plain}
use Rattle.spur_loader.specs.Opening.{board_count}
use Rattle.spur_check.specs.Judged.{Progress, first_progress, progress_after, progress_on}
use Rattle.spur_check.specs.Laws.{NumbersAreTheirs, entry_numbered}

get_more : {X : Type 0} (xs ys : List X) (i : ℕ) (x : X) → slice_get xs i ≡ Some x → slice_get (xs ++ ys) i ≡ Some x
get_more [] ys i x h = absurd cc
get_more (z ∷ zs) ys zero x h = h
get_more (z ∷ zs) ys (suc i) x h = get_more zs ys i x h

get_last : {X : Type 0} (xs : List X) (y : X) → slice_get (xs ++ y ∷ []) (length xs) ≡ Some y
get_last [] y = refl
get_last (x ∷ xs) y = get_last xs y

numbered_more : (past more : List Entry) (n : ℕ) (e : Entry) → entry_numbered past n ≡ Some e → entry_numbered (past ++ more) n ≡ Some e
numbered_more past more zero e h = absurd cc
numbered_more past more (suc k) e h = get_more past more k e h

-- numbers that name entries of a history name them in a longer one
still : (past more : List Entry) (ns : List ℕ) (os : List Entry) → map (entry_numbered past) ns ≡ map Some os → map (entry_numbered (past ++ more)) ns ≡ map Some os
still past more [] [] h = refl
still past more [] (o ∷ os) h = absurd cc
still past more (n ∷ ns) [] h = absurd cc
still past more (n ∷ ns) (o ∷ os) h =
    let head : entry_numbered past n ≡ Some o = cc in
    let tail : map (entry_numbered past) ns ≡ map Some os = cc in
    ap (λ (x : Option Entry). x ∷ map (entry_numbered (past ++ more)) ns) (numbered_more past more n o head) ∙ ap (λ (xs : List (Option Entry)). Some o ∷ xs) (still past more ns os tail)

-- one entry's board
in_step : (past : List Entry) (ns : List ℕ) (os : List Entry) (e : Entry) (role : Role) → map (entry_numbered past) ns ≡ map Some os
    → map (entry_numbered (past ++ e ∷ [])) (numbers_in ns (length past + 1) role) ≡ map Some (open_in os e role)
in_step past ns os e Opens h =
    let next : length past + 1 ≡ suc (length past) = omega arith in
    map-append (entry_numbered (past ++ e ∷ [])) ns ((length past + 1) ∷ [])
    ∙ ap (λ (xs : List (Option Entry)). xs ++ entry_numbered (past ++ e ∷ []) (length past + 1) ∷ []) (still past (e ∷ []) ns os h)
    ∙ ap (λ (x : Option Entry). map Some os ++ x ∷ []) (ap (entry_numbered (past ++ e ∷ [])) next ∙ get_last past e)
    ∙ sym (map-append Some os (e ∷ []))
in_step past ns os e (Serves blocks owned) h = refl
in_step past ns os e Apart h = still past (e ∷ []) ns os h

pub record AreTheirs {S : Type 0} (past : List Entry) (p : Progress S) : Type 0 where
  pub count : p.count ≡ length past
  pub boards : length p.numbers ≡ length p.state.opened
  pub each : (b : ℕ) → map (entry_numbered past) (numbers_at p.numbers b) ≡ map Some (open_at p.state.opened b)

module _ {S : Type 0} (m : Meaning S) where
  step_each : (past : List Entry) (p : Progress S) (e : Entry) → AreTheirs past p → (b : ℕ)
      → map (entry_numbered (past ++ e ∷ [])) (numbers_at (numbers_on p.numbers (p.count + 1) e) b) ≡ map Some (open_at (open_on p.state.opened e) b)
  step_each past p e t b =
      let own : ℕ = board_of e in
      let new : List ℕ = numbers_in (numbers_at p.numbers own) (p.count + 1) (role_of e) in
      let now : List Entry = open_in (open_at p.state.opened own) e (role_of e) in
      let stays : map (entry_numbered (past ++ e ∷ [])) (numbers_at p.numbers b) ≡ map Some (open_at p.state.opened b) = still past (e ∷ []) (numbers_at p.numbers b) (open_at p.state.opened b) (t.each b) in
      let same = t.boards in
      elim (cases_eq b own) [
        | inl q ↦ elim (cases_lt own (length p.numbers)) [
          | inl lt ↦
              let lt_open : own < length p.state.opened = omega arith in
              ap (λ (k : ℕ). map (entry_numbered (past ++ e ∷ [])) (numbers_at (slice_set p.numbers own new) k)) q
              ∙ ap (map (entry_numbered (past ++ e ∷ []))) (get_or-set_same p.numbers own new [] lt)
              ∙ ap (λ (n : ℕ). map (entry_numbered (past ++ e ∷ [])) (numbers_in (numbers_at p.numbers own) (n + 1) (role_of e))) t.count
              ∙ in_step past (numbers_at p.numbers own) (open_at p.state.opened own) e (role_of e) (t.each own)
              ∙ sym (ap (map Some) (get_or-set_same p.state.opened own now [] lt_open))
              ∙ sym (ap (λ (k : ℕ). map Some (open_at (slice_set p.state.opened own now) k)) q)
          | inr ge ↦
              let out : length (slice_set p.numbers own new) ≤ b = (let l = length-set p.numbers own new in omega arith) in
              let out_open : length (slice_set p.state.opened own now) ≤ b = (let l = length-set p.state.opened own now in omega arith) in
              ap (map (entry_numbered (past ++ e ∷ []))) (get_or_past (slice_set p.numbers own new) b [] out) ∙ sym (ap (map Some) (get_or_past (slice_set p.state.opened own now) b [] out_open))
        ]
        | inr n ↦
            ap (map (entry_numbered (past ++ e ∷ []))) (get_or-set_other p.numbers own b new [] n) ∙ stays
            ∙ sym (ap (map Some) (get_or-set_other p.state.opened own b now [] n))
      ]

  one_more : (past : List Entry) (p : Progress S) (e : Entry) → AreTheirs past p → AreTheirs (past ++ e ∷ []) (progress_on m p e)
  one_more past p e t = record {
    count = (let l = length-append past (e ∷ []) in let c = t.count in omega arith);
    boards = length-set _ _ _ ∙ t.boards ∙ sym (length-set _ _ _);
    each = step_each past p e t;
  }

  pub theirs_after : (past : List Entry) (p : Progress S) (es : List Entry) → AreTheirs past p → AreTheirs (past ++ es) (progress_after m p es)
  theirs_after past p [] t = subst (λ (xs : List Entry). AreTheirs xs p) (sym (append-nil past)) t
  theirs_after past p (e ∷ es) t = subst (λ (xs : List Entry). AreTheirs xs (progress_after m (progress_on m p e) es)) (append_assoc past (e ∷ []) es) (theirs_after (past ++ e ∷ []) (progress_on m p e) es (one_more past p e t))

empty_at : {X : Type 0} (x : X) (n b : ℕ) → get_or (replicate n x) b x ≡ x
empty_at x zero b = refl
empty_at x (suc n) zero = refl
empty_at x (suc n) (suc b) = empty_at x n b

pub numbers-are-theirs : NumbersAreTheirs
numbers-are-theirs opening history b =
    (theirs_after plain [] (first_progress opening) history record {
      count = refl;
      boards = length-replicate (board_count opening) [] ∙ sym (length-replicate (board_count opening) []);
      each = λ k. ap (map (entry_numbered [])) (empty_at [] (board_count opening) k) ∙ sym (ap (map Some) (empty_at [] (board_count opening) k));
    }).each b

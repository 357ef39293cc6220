-- The first line of a text, and what is read behind it.
use Rattle.std.proofs.Common.{◌≡◌, ◌∙◌, sym, ap, subst, ℕ, ◌+◌, ◌≤◌, ◌==◌, false, List, [], ◌∷◌, ◌++◌, length, arith, Option, Some, None, Result, Ok, Err}
use Rattle.std.specs.List.{before_first, after_first, position_or_len}
use Rattle.std.proofs.lemmas.Grind.{common_steps}
use Rattle.std.proofs.lemmas.List.{append_assoc, length-drop}
use Rattle.spur_asm.specs.Bytes.{is_feed}
use Rattle.spur_asm.specs.Lexeme.{lexemes_of}
use Rattle.spur_asm.specs.Context.{Placed, IsWithin, leading_label, labels_from, next_context, onto_labels}
use Rattle.spur_asm.specs.Fields.{◌>>=◌}
use Rattle.spur_asm.specs.Line.{statement_of_line}
use Rattle.spur_asm.specs.Step.{step_at}
use Rattle.spur_asm.specs.Draft.{with_line_statement}
use Rattle.spur_asm.specs.Text.{lines_of, draft_from}
use Rattle.spur_asm.specs.Told.{GivesDraft, Told, answer_of, first_told, told_at, told_from}
use Rattle.spur_asm.specs.declared.draft.Draft.{Draft}
use Rattle.spur_asm.specs.declared.fault.AsmFault.{AsmFault}
use Rattle.spur_asm.specs.declared.fault.Misfit.{Misfit}
use Rattle.spur_asm.specs.declared.statement.Context.{Context}
use Rattle.spur_asm.specs.declared.statement.Statement.{Statement}
use Rattle.spur_asm.proofs.SilentTexts.{IsCounted, line_counted}

-- a text that is not empty begins with what stands before its first line feed
lines_of-cons : (b : ℕ) (bytes : List ℕ) → lines_of (b ∷ bytes) ≡ before_first is_feed (b ∷ bytes) ∷ lines_of (after_first is_feed (b ∷ bytes))
lines_of-cons b [] = grind (arith, common_steps)
lines_of-cons b (c ∷ bytes) = grind (arith, common_steps, lines_of-cons c bytes)

pub lines_of-first : (text : List ℕ) → (length text == 0) ≡ false → lines_of text ≡ before_first is_feed text ∷ lines_of (after_first is_feed text)
lines_of-first [] e = absurd (grind arith)
lines_of-first (b ∷ bytes) e = lines_of-cons b bytes

-- what stands behind the first line is shorter
pub after_first-shorter : (text rest : List ℕ) → (length text == 0) ≡ false → rest ≡ after_first is_feed text → length rest + 1 ≤ length text
after_first-shorter [] rest e is = absurd (grind arith)
after_first-shorter (b ∷ bytes) rest e is = rw is (omega (arith, length-drop (position_or_len is_feed (b ∷ bytes) + 1) (b ∷ bytes)))

-- ---- counts

-- what is within a bound is within a greater one
pub within_more : (k n : ℕ) (c : Context) → IsWithin k c → k ≤ n → IsWithin n c
within_more k n c h le =
    let p = h.pages in let w = h.words in let b = h.boards in let s = h.segs in let o = h.codes in let l = h.labels in
    record { pages = omega arith; words = omega arith; boards = omega arith; segs = omega arith; codes = omega arith; labels = omega arith }

-- ---- labels

onto_more : (c : Context) (o : Option (List ℕ)) (front rest : List Placed) → (front ++ onto_labels c o []) ++ rest ≡ front ++ onto_labels c o rest
onto_more c None front rest = append_assoc front [] rest
onto_more c (Some w) front rest = append_assoc front (record { board = c.boards; name = w; place = c.codes } ∷ []) rest

-- one more line's label
pub labels_from-line : (c next : Context) (front more whole : List Placed) (text : List ℕ) → (length text == 0) ≡ false → next ≡ next_context c (before_first is_feed text)
    → more ≡ front ++ onto_labels c (leading_label (lexemes_of (before_first is_feed text))) [] → front ++ labels_from c (lines_of text) ≡ whole
    → more ++ labels_from next (lines_of (after_first is_feed text)) ≡ whole
labels_from-line c next front more whole text some is_next is_more so_far =
    let line : List ℕ = before_first is_feed text in
    let rest : List Placed = labels_from (next_context c line) (lines_of (after_first is_feed text)) in
    ap (λ (n : Context). more ++ labels_from n (lines_of (after_first is_feed text))) is_next
    ∙ ap (λ (m : List Placed). m ++ rest) is_more
    ∙ onto_more c (leading_label (lexemes_of line)) front rest
    ∙ sym (ap (λ (ls : List (List ℕ)). front ++ labels_from c ls) (lines_of-first text some))
    ∙ so_far

-- ---- the draft of the lines from one on whose statement was read, or had a fault

draft_from-Ok : (all : List Placed) (read : Result (Option Statement) Misfit) (next after : Context) (d : Draft) (lines : List (List ℕ)) (s : Option Statement) → ◌>>=◌ {B = Option Statement × Context} read (λ t. Ok (t, after)) ≡ Ok (s, next) → read >>= (λ t. draft_from all after (with_line_statement d t) lines) ≡ draft_from all next (with_line_statement d s) lines
draft_from-Ok all (Ok t) next after d lines s e =
    let here : Option Statement × Context = (t, after) in
    let there : Option Statement × Context = (s, next) in
    let same : here ≡ there = cc in
    ap (λ p. draft_from all p.1 (with_line_statement d p.0) lines) same
draft_from-Ok all (Err m) next after d lines s e = cc

draft_from-Err : (all : List Placed) (read : Result (Option Statement) Misfit) (after : Context) (d : Draft) (lines : List (List ℕ)) (m : Misfit) → ◌>>=◌ {B = Option Statement × Context} read (λ t. Ok (t, after)) ≡ Err m → read >>= (λ t. draft_from all after (with_line_statement d t) lines) ≡ Err m
draft_from-Err all (Ok t) after d lines m e = cc
draft_from-Err all (Err n) after d lines m e = cc

pub draft_from-line : (all : List Placed) (c next : Context) (d : Draft) (text : List ℕ) (s : Option Statement) → (length text == 0) ≡ false → step_at all c (before_first is_feed text) ≡ Ok (s, next) → draft_from all c d (lines_of text) ≡ draft_from all next (with_line_statement d s) (lines_of (after_first is_feed text))
draft_from-line all c next d text s some e =
    rw (lines_of-first text some) (draft_from-Ok all (statement_of_line all c (before_first is_feed text)) next (next_context c (before_first is_feed text)) d (lines_of (after_first is_feed text)) s e)

pub draft_from-fault : (all : List Placed) (c : Context) (d : Draft) (text : List ℕ) (m : Misfit) → (length text == 0) ≡ false → step_at all c (before_first is_feed text) ≡ Err m → draft_from all c d (lines_of text) ≡ Err m
draft_from-fault all c d text m some e =
    rw (lines_of-first text some) (draft_from-Err all (statement_of_line all c (before_first is_feed text)) (next_context c (before_first is_feed text)) d (lines_of (after_first is_feed text)) m e)

-- ---- the fault that is told of the lines from one on

told_from-Ok : (all : List Placed) (read : Result (Option Statement) Misfit) (next after : Context) (number : ℕ) (line : List ℕ) (lines : List (List ℕ)) (s : Option Statement) → ◌>>=◌ {B = Option Statement × Context} read (λ t. Ok (t, after)) ≡ Ok (s, next) → first_told number line read (told_from all after (number + 1) lines) ≡ told_from all next (number + 1) lines
told_from-Ok all (Ok t) next after number line lines s e =
    let here : Option Statement × Context = (t, after) in
    let there : Option Statement × Context = (s, next) in
    let same : here ≡ there = cc in
    ap (λ (p : Option Statement × Context). told_from all p.1 (number + 1) lines) same
told_from-Ok all (Err m) next after number line lines s e = cc

told_from-Err : (read : Result (Option Statement) Misfit) (after : Context) (number : ℕ) (line : List ℕ) (behind : Option Told) (m : Misfit) → ◌>>=◌ {B = Option Statement × Context} read (λ t. Ok (t, after)) ≡ Err m → first_told number line read behind ≡ Some (told_at number line m)
told_from-Err (Ok t) after number line behind m e = cc
told_from-Err (Err n) after number line behind m e = (let same : n ≡ m = cc in ap (λ (x : Misfit). Some (told_at number line x)) same)

pub told_from-line : (all : List Placed) (c next : Context) (number : ℕ) (text : List ℕ) (s : Option Statement) → (length text == 0) ≡ false → step_at all c (before_first is_feed text) ≡ Ok (s, next) → told_from all c number (lines_of text) ≡ told_from all next (number + 1) (lines_of (after_first is_feed text))
told_from-line all c next number text s some e =
    rw (lines_of-first text some) (told_from-Ok all (statement_of_line all c (before_first is_feed text)) next (next_context c (before_first is_feed text)) number (before_first is_feed text) (lines_of (after_first is_feed text)) s e)

pub told_from-fault : (all : List Placed) (c : Context) (number : ℕ) (text : List ℕ) (m : Misfit) → (length text == 0) ≡ false → step_at all c (before_first is_feed text) ≡ Err m → told_from all c number (lines_of text) ≡ Some (told_at number (before_first is_feed text) m)
told_from-fault all c number text m some e =
    rw (lines_of-first text some) (told_from-Err (statement_of_line all c (before_first is_feed text)) (next_context c (before_first is_feed text)) number (before_first is_feed text) (told_from all (next_context c (before_first is_feed text)) (number + 1) (lines_of (after_first is_feed text))) m e)

-- a line was read where the step over it was taken
step-read : (read : Result (Option Statement) Misfit) (after next : Context) (s : Option Statement) → ◌>>=◌ {B = Option Statement × Context} read (λ t. Ok (t, after)) ≡ Ok (s, next) → (read ≡ Ok s) × (after ≡ next)
step-read (Ok t) after next s e =
    let here : Option Statement × Context = (t, after) in
    let there : Option Statement × Context = (s, next) in
    let same : here ≡ there = cc in
    (ap (λ (p : Option Statement × Context). Ok p.0) same, ap (λ (p : Option Statement × Context). p.1) same)
step-read (Err m) after next s e = absurd cc

pub step_counted : (all : List Placed) (c next : Context) (d : Draft) (line : List ℕ) (s : Option Statement) → step_at all c line ≡ Ok (s, next) → IsCounted d c → IsCounted (with_line_statement d s) next
step_counted all c next d line s e h =
    let read = step-read (statement_of_line all c line) (next_context c line) next s e in
    subst (λ (x : Context). IsCounted (with_line_statement d s) x) read.1 (line_counted all c d line s read.0 h)

-- the answer of a text of which this fault is told
pub GivesDraft-told : (fault : AsmFault) (read : Result Draft Misfit) (o : Option Told) (t : Told) → fault ≡ answer_of t → o ≡ Some t → GivesDraft (Err fault) read o
GivesDraft-told fault read o t is e = subst (λ (f : AsmFault). GivesDraft (Err f) read o) (sym is) e

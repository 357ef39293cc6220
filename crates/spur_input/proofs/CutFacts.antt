-- Where an input is cut at its trace.
use Rattle.std.proofs.Common.{◌≡◌, ◌∙◌, ◌⊎◌, inl, inr, refl, sym, ap, ℕ, ◌+◌, ◌-◌, ◌^◌, ◌<◌, Bool, true, false, List, [], ◌∷◌, ◌++◌, length, take, drop, get_or, ◌≤◌, arith, append_assoc, length-append}
use Rattle.std.proofs.lemmas.Bool.Decides.{nat_tests}
use Rattle.std.proofs.lemmas.List.{append-nil, drop_more, take_more}
use Rattle.std.proofs.Math.Seq.{drop-length}
use Rattle.std.specs.Prelude.{◌&&◌, ◌==◌, if◌then◌else◌}
use Rattle.spur_input.specs.Program.{check_limit}
use Rattle.spur_input.specs.Judged.{EndsLine, IsCutAtTrace, program_from, program_part, trace_from, trace_part}

-- whether a line begins behind these bytes, where one begins in front of them or not
abbrev pub line_behind : Bool → List ℕ → Bool
line_behind at_line [] = at_line
line_behind at_line (byte ∷ bytes) = line_behind (byte == 10) bytes

-- two parts, where a line begins in front of the first or not
pub record IsCutFrom (at_line : Bool) (bytes program trace : List ℕ) : Type 0 where
  pub whole : bytes ≡ program ++ trace
  pub none_before : (front behind : List ℕ) → program ≡ front ++ 37 ∷ behind → line_behind at_line front ≡ true → ⊥
  pub begins : (trace ≡ []) ⊎ ((behind : List ℕ) × (trace ≡ 37 ∷ behind) × (line_behind at_line program ≡ true))

none_in_nothing : (front behind : List ℕ) → [] ≡ front ++ 37 ∷ behind → ⊥
none_in_nothing [] behind e = cc
none_in_nothing (f ∷ fs) behind e = cc

is_sign : (at_line : Bool) (byte : ℕ) → (at_line && (byte == 37)) ≡ true → (at_line ≡ true) × (byte ≡ 37)
is_sign true byte e = (refl, grind (arith, nat_tests))
is_sign false byte e = absurd cc

no_sign : (at_line : Bool) (byte : ℕ) → (at_line && (byte == 37)) ≡ false → at_line ≡ true → byte ≡ 37 → ⊥
no_sign true byte e at is = grind (arith, nat_tests)
no_sign false byte e at is = cc

none_further : (at_line : Bool) (byte : ℕ) (bytes program trace : List ℕ) → (at_line && (byte == 37)) ≡ false → IsCutFrom (byte == 10) bytes program trace
    → (front behind : List ℕ) → byte ∷ program ≡ front ++ 37 ∷ behind → line_behind at_line front ≡ true → ⊥
none_further at_line byte bytes program trace goes h [] behind e at =
    let is : byte ≡ 37 = cc in no_sign at_line byte goes at is
none_further at_line byte bytes program trace goes h (f ∷ fs) behind e at =
    let same : byte ≡ f = cc in
    let rest : program ≡ fs ++ 37 ∷ behind = cc in
    h.none_before fs behind rest (ap (λ (b : ℕ). line_behind (b == 10) fs) same ∙ at)

cut_at : (at_line : Bool) (byte : ℕ) (bytes : List ℕ) (stops : Bool) → (at_line && (byte == 37)) ≡ stops
    → IsCutFrom (byte == 10) bytes (program_from (byte == 10) bytes) (trace_from (byte == 10) bytes)
    → IsCutFrom at_line (byte ∷ bytes) (if stops then [] else byte ∷ program_from (byte == 10) bytes) (if stops then byte ∷ bytes else trace_from (byte == 10) bytes)
cut_at at_line byte bytes true is h =
    let sign = is_sign at_line byte is in
    record {
      whole = refl;
      none_before = λ front behind e at. none_in_nothing front behind e;
      begins = inr (bytes, ap (λ (b : ℕ). b ∷ bytes) sign.1, sign.0);
    }
cut_at at_line byte bytes false is h = record {
  whole = ap (λ (x : List ℕ). byte ∷ x) h.whole;
  none_before = none_further at_line byte bytes (program_from (byte == 10) bytes) (trace_from (byte == 10) bytes) is h;
  begins = h.begins;
}

cut_from : (at_line : Bool) (bytes : List ℕ) → IsCutFrom at_line bytes (program_from at_line bytes) (trace_from at_line bytes)
cut_from at_line [] = record { whole = refl; none_before = λ front behind e at. none_in_nothing front behind e; begins = inl refl }
cut_from at_line (byte ∷ bytes) = cut_at at_line byte bytes (at_line && (byte == 37)) refl (cut_from (byte == 10) bytes)

-- ---- lines that end

feed_ends : (at_line : Bool) (front : List ℕ) → line_behind at_line (front ++ 10 ∷ []) ≡ true
feed_ends at_line [] = refl
feed_ends at_line (byte ∷ bytes) = feed_ends (byte == 10) bytes

ends_line : (bytes : List ℕ) → EndsLine bytes → line_behind true bytes ≡ true
ends_line bytes (inl none) = ap (line_behind true) none
ends_line bytes (inr (front, is)) = ap (line_behind true) is ∙ feed_ends true front

last_is_feed : (byte : ℕ) (bytes : List ℕ) → line_behind (byte == 10) bytes ≡ true → (front : List ℕ) × (byte ∷ bytes ≡ front ++ 10 ∷ [])
last_is_feed byte [] at = (let is : byte ≡ 10 = grind (arith, nat_tests) in ([], ap (λ (b : ℕ). b ∷ []) is))
last_is_feed byte (next ∷ bytes) at = (let h = last_is_feed next bytes at in (byte ∷ h.0, ap (λ (x : List ℕ). byte ∷ x) h.1))

line_ends : (bytes : List ℕ) → line_behind true bytes ≡ true → EndsLine bytes
line_ends [] at = inl refl
line_ends (byte ∷ bytes) at = inr (last_is_feed byte bytes at)

begins_there : (program trace : List ℕ) → (trace ≡ []) ⊎ ((behind : List ℕ) × (trace ≡ 37 ∷ behind) × (line_behind true program ≡ true))
    → (trace ≡ []) ⊎ ((behind : List ℕ) × (trace ≡ 37 ∷ behind) × EndsLine program)
begins_there program trace (inl none) = inl none
begins_there program trace (inr (behind, is, at)) = inr (behind, is, line_ends program at)

pub cut_at_trace : (input : List ℕ) → IsCutAtTrace input (program_part input) (trace_part input)
unfolding program_part trace_part
cut_at_trace input =
    let h = cut_from true input in
    record {
      whole = h.whole;
      none_before = λ front behind e ends. h.none_before front behind e (ends_line front ends);
      begins = begins_there (program_from true input) (trace_from true input) h.begins;
    }

-- ---- the search for the place

-- so many bytes were looked at, and no trace begins before there
pub record HasCome (input : List ℕ) (place : ℕ) (at_line : Bool) : Type 0 where
  pub program : program_part input ≡ take place input ++ program_from at_line (drop place input)
  pub trace : trace_part input ≡ trace_from at_line (drop place input)

pub nothing_seen : (input : List ℕ) → HasCome input 0 true
unfolding program_part trace_part
nothing_seen input = record { program = refl; trace = refl }

drop_there : (input : List ℕ) (place byte : ℕ) → place < length input → byte ≡ get_or input place 0 → drop place input ≡ byte ∷ drop (place + 1) input
drop_there input place byte there is = drop_more input place 0 there ∙ ap (λ (b : ℕ). b ∷ drop (place + 1) input) (sym is)

-- the byte there begins no trace
program_on : (at_line : Bool) (byte : ℕ) (bytes : List ℕ) → (at_line && (byte == 37)) ≡ false → program_from at_line (byte ∷ bytes) ≡ byte ∷ program_from (byte == 10) bytes
program_on at_line byte bytes goes = ap (λ (stops : Bool). if stops then [] else byte ∷ program_from (byte == 10) bytes) goes

trace_on : (at_line : Bool) (byte : ℕ) (bytes : List ℕ) → (at_line && (byte == 37)) ≡ false → trace_from at_line (byte ∷ bytes) ≡ trace_from (byte == 10) bytes
trace_on at_line byte bytes goes = ap (λ (stops : Bool). if stops then byte ∷ bytes else trace_from (byte == 10) bytes) goes

pub come_further : (input : List ℕ) (place : ℕ) (at_line : Bool) (byte : ℕ) → place < length input → byte ≡ get_or input place 0 → (at_line && (byte == 37)) ≡ false
    → HasCome input place at_line → HasCome input (place + 1) (byte == 10)
come_further input place at_line byte there is goes h =
    let rest : drop place input ≡ byte ∷ drop (place + 1) input = drop_there input place byte there is in
    let tail : List ℕ = program_from (byte == 10) (drop (place + 1) input) in
    let more : take (place + 1) input ≡ take place input ++ byte ∷ [] = take_more input place 0 there ∙ ap (λ (b : ℕ). take place input ++ b ∷ []) (sym is) in
    record {
      program = h.program ∙ ap (λ (x : List ℕ). take place input ++ program_from at_line x) rest
          ∙ ap (λ (x : List ℕ). take place input ++ x) (program_on at_line byte (drop (place + 1) input) goes)
          ∙ sym (append_assoc (take place input) (byte ∷ []) tail) ∙ ap (λ (x : List ℕ). x ++ tail) (sym more);
      trace = h.trace ∙ ap (trace_from at_line) rest ∙ trace_on at_line byte (drop (place + 1) input) goes;
    }

-- the trace begins there
pub sign_there : (input : List ℕ) (place : ℕ) (at_line : Bool) (byte : ℕ) → place < length input → byte ≡ get_or input place 0 → (at_line && (byte == 37)) ≡ true
    → HasCome input place at_line → (take place input ≡ program_part input) × (drop place input ≡ trace_part input)
sign_there input place at_line byte there is stops h =
    let rest : drop place input ≡ byte ∷ drop (place + 1) input = drop_there input place byte there is in
    let none : program_from at_line (byte ∷ drop (place + 1) input) ≡ [] = ap (λ (s : Bool). if s then [] else byte ∷ program_from (byte == 10) (drop (place + 1) input)) stops in
    let all : trace_from at_line (byte ∷ drop (place + 1) input) ≡ byte ∷ drop (place + 1) input = ap (λ (s : Bool). if s then byte ∷ drop (place + 1) input else trace_from (byte == 10) (drop (place + 1) input)) stops in (
      sym (h.program ∙ ap (λ (x : List ℕ). take place input ++ program_from at_line x) rest ∙ ap (λ (x : List ℕ). take place input ++ x) none ∙ append-nil (take place input)),
      sym (h.trace ∙ ap (trace_from at_line) rest ∙ all ∙ sym rest),
    )

-- no trace begins in the input
pub none_there : (input : List ℕ) (at_line : Bool) → HasCome input (length input) at_line → (take (length input) input ≡ program_part input) × (drop (length input) input ≡ trace_part input)
none_there input at_line h =
    let rest : drop (length input) input ≡ [] = drop-length input in (
      sym (h.program ∙ ap (λ (x : List ℕ). take (length input) input ++ program_from at_line x) rest ∙ append-nil (take (length input) input)),
      sym (h.trace ∙ ap (trace_from at_line) rest ∙ sym rest),
    )

-- the program's part is no longer than the input
pub part_shorter : (input : List ℕ) → length (program_part input) ≤ length input
part_shorter input = (let sum = ap (λ (x : List ℕ). length x) (cut_at_trace input).whole ∙ length-append (program_part input) (trace_part input) in omega (arith, sum))

pub part_fits : (input part : List ℕ) → length input ≤ check_limit → part ≡ program_part input → length part < 2 ^ 32 - 1
part_fits input part within is = (let short = part_shorter input in let same : length part ≡ length (program_part input) = ap (λ (x : List ℕ). length x) is in omega (arith, within, short, same))

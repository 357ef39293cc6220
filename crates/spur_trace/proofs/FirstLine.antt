-- What begins with a written line has it as its first line.
use Rattle.std.proofs.Common.{◌≡◌, ◌∙◌, sym, ℕ, ◌≤◌, Bool, true, false, cond, eqb, leb, List, [], ◌∷◌, ◌++◌, Option, Some, None, refl, ap, arith, append_assoc}
use Rattle.std.specs.List.{list_all}
use Rattle.std.specs.Option.{option_map}
use Rattle.std.proofs.lemmas.Bool.{and_parts, eqb-true, leb-true}
use Rattle.spur_flat.specs.declared.entry.Entry.{Entry}
use Rattle.spur_trace.specs.Formed.{IsHead, IsTraced}
use Rattle.spur_trace.specs.declared.head.TraceHead.{TraceHead}
use Rattle.spur_trace.specs.Faults.{HasHeader, HasNoEntry, first_line}
use Rattle.spur_trace.specs.Laws.{IsOneLine, NoEntryInFront}
use Rattle.spur_trace.specs.Line.{entry_line, header_line}
use Rattle.spur_trace.proofs.PrintFacts.{each_line}

no_feed : (c : ℕ) → 32 ≤ c → eqb c 10 ≡ false
no_feed c high = grind arith

line_found : (front rest : List ℕ) → list_all (λ b. leb 32 b) front ≡ true → first_line (front ++ 10 ∷ rest) ≡ Some (front ++ 10 ∷ [])
line_found [] rest p = refl
line_found (c ∷ cs) rest p =
    let t = and_parts (leb 32 c) (list_all (λ b. leb 32 b) cs) p in
    rw (no_feed c (leb-true 32 c t.0), line_found cs rest t.1) refl

-- a text begins with this line
pub record Begins (text l : List ℕ) : Type 0 where
  pub rest : List ℕ
  pub text_is : text ≡ l ++ rest

onto : (b : ℕ) (bytes l : List ℕ) (o : Option (List ℕ)) → first_line bytes ≡ o → ((m : List ℕ) → first_line bytes ≡ Some m → Begins bytes m)
    → option_map (λ m. b ∷ m) o ≡ Some l → Begins (b ∷ bytes) l
onto b bytes l None e tail h = absurd cc
onto b bytes l (Some m) e tail h =
    let same : b ∷ m ≡ l = cc in
    let is = tail m e in
    record { rest = is.rest; text_is = ap (λ (x : List ℕ). b ∷ x) is.text_is ∙ ap (λ (x : List ℕ). x ++ is.rest) same }

step : (b : ℕ) (bytes l : List ℕ) (t : Bool) → eqb b 10 ≡ t → ((m : List ℕ) → first_line bytes ≡ Some m → Begins bytes m)
    → cond t (Some (10 ∷ [])) (option_map (λ m. b ∷ m) (first_line bytes)) ≡ Some l → Begins (b ∷ bytes) l
step b bytes l true e tail h =
    let same : 10 ∷ [] ≡ l = cc in
    let feed : b ≡ 10 = eqb-true b 10 e in
    record { rest = bytes; text_is = ap (λ (x : ℕ). x ∷ bytes) feed ∙ ap (λ (x : List ℕ). x ++ bytes) same }
step b bytes l false e tail h = onto b bytes l (first_line bytes) refl tail h

line_is : (text l : List ℕ) → first_line text ≡ Some l → Begins text l
line_is [] l e = absurd cc
line_is (b ∷ bytes) l e = step b bytes l (eqb b 10) refl (line_is bytes) e

first_of_line : (line rest : List ℕ) → IsOneLine line → first_line (line ++ rest) ≡ Some line
first_of_line line rest one =
    let text : line ++ rest ≡ one.0 ++ 10 ∷ rest = ap (λ (x : List ℕ). x ++ rest) one.1 ∙ append_assoc one.0 (10 ∷ []) rest in
    ap first_line text ∙ (line_found one.0 rest one.2 ∙ ap (λ (x : List ℕ). Some x) (sym one.1))

-- a text begins with the line of no entry
abbrev pub BeginsWithNone : ℕ → List ℕ → Type 0
BeginsWithNone boards text = (e : Entry) (rest : List ℕ) → IsTraced boards e → text ≡ entry_line e ++ rest → ⊥

pub none_by_line : (boards : ℕ) (text : List ℕ) → BeginsWithNone boards text → HasNoEntry boards text
none_by_line boards text none = λ e t is. let b = line_is text (entry_line e) is in none e b.rest t b.text_is

pub none_in_front : (boards : ℕ) (text : List ℕ) → boards ≤ 10000 → HasNoEntry boards text → BeginsWithNone boards text
none_in_front boards text few none = λ e rest t is.
    none e t (ap first_line is ∙ first_of_line (entry_line e) rest (each_line.0 boards e few t))

pub no_entry_in_front : NoEntryInFront
no_entry_in_front = λ boards text few. (none_in_front boards text few, none_by_line boards text)

-- ---- headers

pub has_header : (text : List ℕ) (head : TraceHead) (rest : List ℕ) → IsHead head → text ≡ header_line head ++ rest → HasHeader text head
has_header text head rest is begins = record {
  is_head = is;
  first = ap first_line begins ∙ first_of_line (header_line head) rest (each_line.1 head is);
}

pub header_begins : (text : List ℕ) (head : TraceHead) → HasHeader text head → Begins text (header_line head)
header_begins text head h = line_is text (header_line head) h.first

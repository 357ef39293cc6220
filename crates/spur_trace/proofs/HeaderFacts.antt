-- The line of a header is read as that header, and what is read is the line of a header.
use Rattle.std.proofs.Common.{◌≡◌, ◌∙◌, sym, ℕ, ◌+◌, ◌<◌, ◌≤◌, false, leb, List, [], ◌∷◌, ◌++◌, Some, refl, ap, arith, codes, subst}
use Rattle.std.specs.Char.{is_ascii_digit}
use Rattle.std.specs.Fmt.{decimal}
use Rattle.std.specs.Int.{is_power_of_two}
use Rattle.std.proofs.lemmas.Bool.{leb-true, le-leb}
use Rattle.std.proofs.lemmas.Option.{cond_some}
use Rattle.spur_cache.proofs.SizeFacts.{counted}
use Rattle.spur_trace.specs.declared.head.TraceHead.{TraceHead}
use Rattle.spur_trace.specs.Formed.{IsHead, IsInRange}
use Rattle.spur_trace.proofs.RangeFacts.{ranges}
use Rattle.spur_trace.specs.Line.{field, header_line}
use Rattle.spur_trace.specs.Reading.{behind, below_at, header_at, within_at}
use Rattle.spur_trace.proofs.FrontFacts.{behind_is}
use Rattle.spur_trace.proofs.FieldFacts.{Stands, below_again, below_is, bind_then}
use Rattle.spur_text.proofs.LineFacts.{line_spread, spread}
use Rattle.spur_trace.proofs.EntryFacts.{behind_word}

-- ---- numbers in a range

within_is : (least most mark : ℕ) (bytes : List ℕ) (n : ℕ) (rest : List ℕ) → within_at least most mark bytes ≡ Some (n, rest)
    → Stands bytes (decimal n) mark rest ((least ≤ n) × (n < most + 1))
unfolding within_at
within_is least most mark bytes n rest e =
    bind_then _ (below_at (most + 1) mark bytes) (n, rest) e (λ p read e1.
    let t = cond_some (leb least p.0) p (n, rest) e1 in
    subst (λ (x : ℕ × List ℕ). Stands bytes (decimal x.0) mark x.1 ((least ≤ x.0) × (x.0 < most + 1))) t.1 (
    let s = below_is (most + 1) mark bytes p.0 p.1 read in
    record { text_is = s.text_is; holds = (leb-true least p.0 t.0, s.holds) }))

within_again : (least most mark n : ℕ) (rest : List ℕ) → least ≤ n → n ≤ most → most < 10000 → is_ascii_digit mark ≡ false
    → within_at least most mark (decimal n ++ mark ∷ rest) ≡ Some (n, rest)
unfolding within_at
within_again least most mark n rest low high few other = rw (below_again (most + 1) mark n rest (omega arith) (omega arith) other, le-leb least n low) refl

-- ---- headers

pub header_again : (head : TraceHead) (rest : List ℕ) → IsHead head → header_at (header_line head ++ rest) ≡ Some (head, rest)
unfolding header_line header_at
header_again head rest is =
    let r = ranges head is in
    ap header_at (line_spread (codes "%trace" ∷ decimal 1 ∷ decimal head.boards ∷ decimal head.frames ∷ decimal head.lines ∷ []) rest) ∙ (
    rw (
      within_again 1 1 32 1 (decimal head.boards ++ 32 ∷ (decimal head.frames ++ 32 ∷ (decimal head.lines ++ 10 ∷ rest))) (omega arith) (omega arith) (omega arith) refl,
      within_again 1 12 32 head.boards (decimal head.frames ++ 32 ∷ (decimal head.lines ++ 10 ∷ rest)) r.some_boards r.few_boards (omega arith) refl,
      within_again 1 3900 32 head.frames (decimal head.lines ++ 10 ∷ rest) r.some_frames r.few_frames (omega arith) refl,
      within_again 16 4096 10 head.lines rest r.some_lines r.few_lines (omega arith) refl,
      (counted head.lines (is_power_of_two head.lines) refl r.some_lines r.few_lines).1 is.lines,
    ) refl)

-- what the line of a header is made of
pub record IsHeaderRead (bytes : List ℕ) (head : TraceHead) (rest : List ℕ) : Type 0 where
  pub is_head : IsHead head
  pub text_is : bytes ≡ header_line head ++ rest

in_range : (least most n : ℕ) → (least ≤ n) × (n < most + 1) → IsInRange (field least most n)
in_range least most n h = record { low = h.0; high = let l = h.1 in omega arith }

pub header_is : (bytes : List ℕ) (head : TraceHead) (rest : List ℕ) → header_at bytes ≡ Some (head, rest) → IsHeaderRead bytes head rest
unfolding header_at header_line
header_is bytes head rest e =
    bind_then _ (behind (codes "%trace ") bytes) (head, rest) e (λ x0 read0 e0.
    bind_then _ (within_at 1 1 32 x0) (head, rest) e0 (λ v read1 e1.
    bind_then _ (within_at 1 12 32 v.1) (head, rest) e1 (λ b read2 e2.
    bind_then _ (within_at 1 3900 32 b.1) (head, rest) e2 (λ f read3 e3.
    bind_then _ (within_at 16 4096 10 f.1) (head, rest) e3 (λ l read4 e4.
    let begun = behind_is (codes "%trace ") bytes x0 read0 in
    let version = within_is 1 1 32 x0 v.0 v.1 read1 in
    let boards = within_is 1 12 32 v.1 b.0 b.1 read2 in
    let frames = within_is 1 3900 32 b.1 f.0 f.1 read3 in
    let lines = within_is 16 4096 10 f.1 l.0 l.1 read4 in
    let made : TraceHead = record { boards = b.0; frames = f.0; lines = l.0 } in
    let t = cond_some (is_power_of_two l.0) (made, l.1) (head, rest) e4 in
    let one : v.0 ≡ 1 = omega (arith, version.holds.0, version.holds.1) in
    let first : x0 ≡ decimal 1 ++ 32 ∷ v.1 = version.text_is ∙ ap (λ (x : ℕ). decimal x ++ 32 ∷ v.1) one in
    let tail : x0 ≡ spread (decimal 1 ∷ decimal b.0 ∷ decimal f.0 ∷ decimal l.0 ∷ []) l.1 =
    behind_word (decimal 1) x0 _ v.1 first (behind_word (decimal b.0) v.1 _ b.1 boards.text_is (behind_word (decimal f.0) b.1 _ f.1 frames.text_is lines.text_is)) in
    let text : bytes ≡ spread (codes "%trace" ∷ decimal 1 ∷ decimal b.0 ∷ decimal f.0 ∷ decimal l.0 ∷ []) l.1 = begun ∙ ap (λ (x : List ℕ). codes "%trace " ++ x) tail in
    let most : l.0 ≤ 4096 = let below = lines.holds.1 in omega arith in
    let power = (counted l.0 (is_power_of_two l.0) refl lines.holds.0 most).0 t.0 in
    subst (λ (x : TraceHead × List ℕ). IsHeaderRead bytes x.0 x.1) t.1 (record {
      is_head = record {
        ranges = (in_range 1 1 1 (omega arith, omega arith), (in_range 1 12 b.0 boards.holds, (in_range 1 3900 f.0 frames.holds, (in_range 16 4096 l.0 lines.holds, tt))));
        lines = power;
      };
      text_is = text ∙ sym (line_spread (codes "%trace" ∷ decimal 1 ∷ decimal b.0 ∷ decimal f.0 ∷ decimal l.0 ∷ []) l.1);
    }))))))

-- What each reader of a field takes is what fits the field, and its faults are of the field's kinds.
use Rattle.std.proofs.Common.{◌≡◌, inl, inr, ℕ, ◌+◌, ◌-◌, ◌%◌, ◌<◌, ◌≤◌, Bool, true, false, ◌||◌, cond, eqb, List, [], ◌∷◌, Option, Some, None, Result, Ok, Err, refl, sym, subst, ◌∙◌, arith, ℤ, pos, negsuc, ◌≤ℤ◌}
use Rattle.std.proofs.lemmas.Bool.{lt-ltb, le-ltb, cases_lt}
use Rattle.std.proofs.lemmas.Bool.Decides.{nat_tests}
use Rattle.std.proofs.lemmas.Int.{ints}
use Rattle.std.specs.Prelude.{int_lt, unsigned_abs, codes}
use Rattle.std.specs.List.{Contains}
use Rattle.spur_addr.specs.declared.page_entry.Protection.{Protection}
use Rattle.spur_addr.specs.declared.page_entry.Protection.TheVariants.{Nothing, ReadOnly, ReadWrite}
use Rattle.spur_asm.specs.Bytes.{is_mark, is_name_byte}
use Rattle.spur_asm.specs.Token.{Token, Name, Number, Mark}
use Rattle.spur_asm.specs.Item.{register, register_text, protection_text, natural}
use Rattle.spur_asm.specs.Fields.{◌>>=◌, known, mark_in, named_register, register_in, named_protection, protection_in, number_in, natural_in, offset_in, label_in}
use Rattle.spur_asm.specs.Shapes.{ThisMark, Register, Protected, Target, Ranged, Aligned, kind_against}
use Rattle.spur_asm.specs.Spelling.{IsName, IsNumber, IsText}
use Rattle.spur_asm.specs.declared.fault.AsmKind.{AsmKind}
use Rattle.spur_asm.specs.declared.fault.AsmKind.TheVariants.{BadToken, BadNumber, NoLabel, UnknownName}
use Rattle.spur_asm.proofs.ValueLemmas.{mark_is, register_read, register_is, protection_read, protection_is, number_read, number_is, natural_read, natural_is, offset_read, offset_is, label_read, label_is}
use Rattle.spur_asm.proofs.Judging.{IsTaken, Matches}

-- ---- tests and tables

bad_if : {A : Type 0} (b : Bool) (x : A) (bad kind : AsmKind) → cond b (Ok x) (Err bad) ≡ Err kind → kind ≡ bad
bad_if true x bad kind e = absurd cc
bad_if false x bad kind e = cc

bad_unless : {A : Type 0} (b : Bool) (x : A) (bad kind : AsmKind) → cond b (Err bad) (Ok x) ≡ Err kind → kind ≡ bad
bad_unless true x bad kind e = cc
bad_unless false x bad kind e = absurd cc

unknown : {A : Type 0} (o : Option A) (bad kind : AsmKind) → known bad o ≡ Err kind → kind ≡ bad
unknown None bad kind e = cc
unknown (Some x) bad kind e = absurd cc

bad_token : {A : Type 0} (kind : AsmKind) → ◌≡◌ {A = Result A AsmKind} (Err BadToken) (Err kind) → kind ≡ BadToken
bad_token kind e = cc

written_as : (token other : Token) (text : List ℕ) → token ≡ other → IsText token text → IsText other text
written_as token other text is t = subst (λ (x : Token). IsText x text) is t

-- ---- marks

mark_kind : (mark : ℕ) (token : Token) (kind : AsmKind) → mark_in mark token ≡ Err kind → kind ≡ kind_against (ThisMark mark) token
mark_kind mark (Name name) kind e = bad_token {A = ℕ} kind e
mark_kind mark (Number z) kind e = bad_token {A = ℕ} kind e
mark_kind mark (Mark other) kind e = bad_if (eqb other mark) mark BadToken kind e

mark_taken : (mark : ℕ) → is_mark mark ≡ true → mark_in mark (Mark mark) ≡ Ok mark
mark_taken mark is = rw (same mark) refl
  where
    same : (n : ℕ) → eqb n n ≡ true
    same n = grind (arith, nat_tests)

pub mark_matches : (labels : List (List ℕ)) (mark : ℕ) → is_mark mark ≡ true → Matches labels (ThisMark mark) (mark_in mark)
mark_matches labels mark is = record {
  fits = λ token value text t e. (written_as token (Mark mark) text (mark_is mark token value e) t).0;
  takes_it = λ text fits. record { token = Mark mark; writes = (fits, is); value = mark; taken_as = mark_taken mark is };
  kind_is = mark_kind mark;
}

-- ---- registers

digit_goes_on : (c : ℕ) → 48 ≤ c → c ≤ 57 → is_name_byte c ≡ true
digit_goes_on c low high = grind (arith, nat_tests)

register_is_name : (a : ℕ) → a < 16 → IsName (register_text a)
register_is_name a below = elim (cases_lt a 10) [
  | inl low ↦ rw (lt-ltb a 10 low) (record { first = 114; more = (48 + a) ∷ []; is = refl; starts = refl; goes_on = rw (digit_goes_on (48 + a) (omega arith) (omega arith)) refl; short = omega arith })
  | inr high ↦ rw (le-ltb a 10 high) (record { first = 114; more = 49 ∷ (48 + (a - 10)) ∷ []; is = refl; starts = refl; goes_on = rw (digit_goes_on (48 + (a - 10)) (omega arith) (omega arith)) refl; short = omega arith })
]

register_kind : (token : Token) (kind : AsmKind) → register_in token ≡ Err kind → kind ≡ kind_against Register token
register_kind (Name name) kind e = unknown (named_register name) UnknownName kind e
register_kind (Number z) kind e = bad_token {A = ℕ} kind e
register_kind (Mark other) kind e = bad_token {A = ℕ} kind e

pub register_matches : (labels : List (List ℕ)) → Matches labels Register register_in
register_matches labels = record {
  fits = λ token value text t e. (let is = register_is token value e in (value, is.0, (written_as token (register value) text is.1 t).0));
  takes_it = λ text fits. record { token = register fits.0; writes = (fits.2, register_is_name fits.0 fits.1); value = fits.0; taken_as = register_read fits.0 fits.1 };
  kind_is = register_kind;
}

-- ---- protections

protection_is_name : (prot : Protection) → IsName (protection_text prot)
protection_is_name Nothing = record { first = 110; more = codes "one"; is = refl; starts = refl; goes_on = refl; short = omega arith }
protection_is_name ReadOnly = record { first = 114; more = codes "o"; is = refl; starts = refl; goes_on = refl; short = omega arith }
protection_is_name ReadWrite = record { first = 114; more = codes "w"; is = refl; starts = refl; goes_on = refl; short = omega arith }

protection_kind : (token : Token) (kind : AsmKind) → protection_in token ≡ Err kind → kind ≡ kind_against Protected token
protection_kind (Name name) kind e = unknown (named_protection name) UnknownName kind e
protection_kind (Number z) kind e = bad_token {A = Protection} kind e
protection_kind (Mark other) kind e = bad_token {A = Protection} kind e

pub protection_matches : (labels : List (List ℕ)) → Matches labels Protected protection_in
protection_matches labels = record {
  fits = λ token value text t e. (value, (written_as token (Name (protection_text value)) text (protection_is token value e) t).0);
  takes_it = λ text fits. record { token = Name (protection_text fits.0); writes = (fits.1, protection_is_name fits.0); value = fits.0; taken_as = protection_read fits.0 };
  kind_is = protection_kind;
}

-- ---- numbers

number_kind : (low high : ℤ) (token : Token) (kind : AsmKind) → number_in low high token ≡ Err kind → kind ≡ kind_against (Ranged low high) token
number_kind low high (Name name) kind e = bad_token {A = ℤ} kind e
number_kind low high (Number z) kind e = bad_unless (int_lt z low || int_lt high z) z BadNumber kind e
number_kind low high (Mark other) kind e = bad_token {A = ℤ} kind e

pub ranged_matches : (labels : List (List ℕ)) (low high : ℤ) → Matches labels (Ranged low high) (number_in low high)
ranged_matches labels low high = record {
  fits = λ token value text t e. (let is = number_is low high token value e in record { value = value; writes = written_as token (Number value) text is.is t; least = is.least; most = is.most });
  takes_it = λ text fits. record { token = Number fits.value; writes = fits.writes; value = fits.value; taken_as = number_read low high fits.value fits.least fits.most };
  kind_is = number_kind low high;
}

kept : {A B : Type 0} (r : Result A AsmKind) (make : A → B) (kind : AsmKind) → (r >>= (λ x. Ok (make x))) ≡ Err kind → r ≡ Err kind
kept (Ok x) make kind e = absurd cc
kept (Err k) make kind e = cc

natural_kind : (high : ℕ) (token : Token) (kind : AsmKind) → natural_in high token ≡ Err kind → kind ≡ kind_against (Ranged (pos 0) (pos high)) token
natural_kind high token kind e = number_kind (pos 0) (pos high) token kind (kept (number_in (pos 0) (pos high) token) (λ (z : ℤ). unsigned_abs z) kind e)

natural_least : (n : ℕ) → pos 0 ≤ℤ pos n
natural_least n = omega (arith, ints)

natural_most : (n high : ℕ) → n ≤ high → pos n ≤ℤ pos high
natural_most n high most = omega (arith, ints)

natural_takes : (high : ℕ) (text : List ℕ) (z : ℤ) → IsNumber text z → pos 0 ≤ℤ z → z ≤ℤ pos high → IsTaken (natural_in high) text
natural_takes high text (pos n) is least most = record { token = natural n; writes = is; value = n; taken_as = natural_read high n (omega (arith, ints)) }
natural_takes high text (negsuc n) is least most = absurd (omega (arith, ints))

pub natural_matches : (labels : List (List ℕ)) (high : ℕ) → Matches labels (Ranged (pos 0) (pos high)) (natural_in high)
natural_matches labels high = record {
  fits = λ token value text t e. (let is = natural_is high token value e in record { value = pos value; writes = written_as token (natural value) text is.1 t; least = natural_least value; most = natural_most value high is.0 });
  takes_it = λ text fits. natural_takes high text fits.value fits.writes fits.least fits.most;
  kind_is = natural_kind high;
}

offset_kind : (high : ℕ) (token : Token) (kind : AsmKind) → offset_in high token ≡ Err kind → kind ≡ kind_against (Aligned high) token
offset_kind high token kind e = parts (natural_in high token) refl e
  where
    number : (token : Token) → kind_against (Ranged (pos 0) (pos high)) token ≡ kind_against (Aligned high) token
    number (Name name) = refl
    number (Number z) = refl
    number (Mark other) = refl

    is_number : (token : Token) (n : ℕ) → natural_in high token ≡ Ok n → BadNumber ≡ kind_against (Aligned high) token
    is_number token n v = (let is = natural_is high token n v in rw is.1 refl)

    parts : (r : Result ℕ AsmKind) → natural_in high token ≡ r → (r >>= (λ n. cond (eqb (n % 4) 0) (Ok n) (Err BadNumber))) ≡ Err kind → kind ≡ kind_against (Aligned high) token
    parts (Err k) v e = (let same : k ≡ kind = cc in sym same ∙ natural_kind high token k v ∙ number token)
    parts (Ok n) v e = bad_if (eqb (n % 4) 0) n BadNumber kind e ∙ is_number token n v

pub aligned_matches : (labels : List (List ℕ)) (high : ℕ) → Matches labels (Aligned high) (offset_in high)
aligned_matches labels high = record {
  fits = λ token value text t e. (let is = offset_is high token value e in record { value = value; writes = written_as token (natural value) text is.is t; most = is.most; aligned = is.aligned });
  takes_it = λ text fits. record { token = natural fits.value; writes = fits.writes; value = fits.value; taken_as = offset_read high fits.value fits.most fits.aligned };
  kind_is = offset_kind high;
}

-- ---- labels

-- these are the names that lead anywhere
pub record AreTargets (labels : List (List ℕ)) (immediate : List ℕ → Option ℤ) : Type 0 where
  pub contained : (name : List ℕ) (i : ℤ) → immediate name ≡ Some i → Contains labels name
  pub leads : (name : List ℕ) → Contains labels name → (i : ℤ) × (immediate name ≡ Some i)

label_kind : (immediate : List ℕ → Option ℤ) (token : Token) (kind : AsmKind) → label_in immediate token ≡ Err kind → kind ≡ kind_against Target token
label_kind immediate (Name name) kind e = unknown (immediate name) NoLabel kind e
label_kind immediate (Number z) kind e = bad_token {A = ℤ} kind e
label_kind immediate (Mark other) kind e = bad_token {A = ℤ} kind e

pub label_matches : (labels : List (List ℕ)) (immediate : List ℕ → Option ℤ) → AreTargets labels immediate → Matches labels Target (label_in immediate)
label_matches labels immediate are = record {
  fits = λ token value text t e. (
      let is = label_is immediate token value e in
      let spelled : IsText (Name is.name) text = written_as token (Name is.name) text is.is t in
      let own : IsText (Name text) text = subst (λ (x : List ℕ). IsText (Name x) text) (sym spelled.0) spelled in
      (own, subst (λ (x : List ℕ). Contains labels x) (sym spelled.0) (are.contained is.name value is.leads)));
  takes_it = λ text fits. (let to = are.leads text fits.1 in record { token = Name text; writes = fits.0; value = to.0; taken_as = label_read immediate text to.0 to.1 });
  kind_is = label_kind immediate;
}

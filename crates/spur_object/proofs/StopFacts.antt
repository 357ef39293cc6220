-- Reading a part of an object within the whole: what is read of the part is read of the whole, and where the part stops,
-- so does the whole.
use Rattle.std.specs.List.{All}
use Rattle.std.proofs.Common.{◌≡◌, ℕ, ◌-◌, ◌<◌, List, [], ◌∷◌, ◌++◌, length, take, replicate, refl, sym, ap, ◌∙◌, arith, append_assoc, length-append, subst}
use Rattle.std.proofs.lemmas.Grind.{flat_map-append}
use Rattle.std.proofs.lemmas.List.{append-nil, length-replicate}
use Rattle.std.proofs.lemmas.List.Elements.{All-append, All-cons, All-head, All-replicate, All-tail, All-nil, All-push}
use Rattle.spur_object.specs.declared.fault.ObjKind.{ObjKind}
use Rattle.spur_object.specs.declared.fault.ObjKind.TheVariants.{Magic, Version, Short, Trailing, BadWord, Field}
use Rattle.spur_object.specs.Fields.{ObjField, bytes_of}
use Rattle.spur_object.specs.Reading.{Begins, IsCounted, NoneGoesOn, Stops, Why, list_fields}
use Rattle.spur_object.proofs.ByteFacts.{bytes_behind}

-- ---- one writing to a thing

-- no bytes begin with the fields of two such things
abbrev pub Once : {X : Type 0} → (X → Type 0) → (X → List ObjField) → Type 0
Once {X = X} IsX fields = (x y : X) (r s : List ℕ) → IsX x → IsX y → bytes_of (fields x) ++ r ≡ bytes_of (fields y) ++ s → (x ≡ y) × (r ≡ s)

-- ---- stopping

why_else : (kind : ObjKind) (next : ObjField) (left : List ℕ) (A B : Type 0) → (A → B) → Why kind next left A → Why kind next left B
why_else Magic next left A B f why = (why.0, why.1, f why.2)
why_else Version next left A B f why = (why.0, why.1, f why.2)
why_else Short next left A B f why = why
why_else Trailing next left A B f why = why
why_else BadWord next left A B f why = (why.0, why.1, f why.2)
why_else Field next left A B f why = (why.0, why.1, f why.2)

-- a thing with the bytes in front, whichever it is
pub record BeginsSome {X : Type 0} (IsX : X → Type 0) (fields : X → List ObjField) (bytes : List ℕ) : Type 0 where
  pub thing : X
  pub rest : List ℕ
  pub begins : Begins IsX fields bytes thing rest

-- a part X of a whole Y, behind the fields `front`
pub record IsPart {X Y : Type 0} (IsX : X → Type 0) (part : X → List ObjField) (IsY : Y → Type 0) (whole : Y → List ObjField) (front : List ObjField) : Type 0 where
  -- each part can be made a whole with these fields in front
  pub make : X → Y
  pub behind : X → List ObjField
  pub limits : (x : X) → IsX x → IsY (make x)
  pub fields_are : (x : X) → IsX x → whole (make x) ≡ front ++ (part x ++ behind x)
  -- and behind these fields each whole goes on with such a part
  pub only : (y : Y) (r s : List ℕ) → IsY y → bytes_of (whole y) ++ s ≡ bytes_of front ++ r → BeginsSome IsX part r

-- where a part stops, the whole stops
pub lift : {X Y : Type 0} (IsX : X → Type 0) (part : X → List ObjField) (IsY : Y → Type 0) (whole : Y → List ObjField) (front : List ObjField)
    → IsPart IsX part IsY whole front
    → (all bytes left : List ℕ) (kind : ObjKind) → all ≡ bytes_of front ++ bytes → Stops IsX part bytes kind left → Stops IsY whole all kind left
lift IsX part IsY whole front is all bytes left kind all_are stop =
    let before = stop.before in
    let after = stop.after ++ is.behind stop.like in
    let inner : part stop.like ++ is.behind stop.like ≡ before ++ stop.next ∷ after =
    ap (λ l. l ++ is.behind stop.like) stop.fields_are ∙ append_assoc before (stop.next ∷ stop.after) (is.behind stop.like) in
    let fields : whole (is.make stop.like) ≡ (front ++ before) ++ stop.next ∷ after =
    is.fields_are stop.like stop.limits ∙ ap (λ l. front ++ l) inner ∙ sym (append_assoc front before (stop.next ∷ after)) in
    let none : NoneGoesOn IsX part before (take 4 left) → NoneGoesOn IsY whole (front ++ before) (take 4 left) =
    λ goes y rest more limits e.
    let found = is.only y (bytes_of before ++ (take 4 left ++ more)) rest limits (e ∙ bytes_behind front before (take 4 left ++ more)) in
    goes found.thing found.rest more found.begins.limits (sym found.begins.bytes_are) in
    record {
      like = is.make stop.like;
      limits = is.limits stop.like stop.limits;
      before = front ++ before;
      next = stop.next;
      after = after;
      fields_are = fields;
      bytes_are = all_are ∙ ap (λ l. bytes_of front ++ l) stop.bytes_are ∙ sym (bytes_behind front before left);
      why = why_else kind stop.next left (NoneGoesOn IsX part before (take 4 left)) (NoneGoesOn IsY whole (front ++ before) (take 4 left)) none stop.why;
    }

-- ---- lists

list_behind : {X : Type 0} (fields : X → List ObjField) (x : X) (xs : List X) (r : List ℕ)
    → bytes_of (list_fields fields (x ∷ xs)) ++ r ≡ bytes_of (fields x) ++ (bytes_of (list_fields fields xs) ++ r)
list_behind fields x xs r = bytes_behind (fields x) (list_fields fields xs) r

-- lists of one length have one writing
pub list_once : {X : Type 0} (IsX : X → Type 0) (fields : X → List ObjField) → Once IsX fields
    → (xs ys : List X) (r s : List ℕ) → length xs ≡ length ys → All IsX xs → All IsX ys
    → bytes_of (list_fields fields xs) ++ r ≡ bytes_of (list_fields fields ys) ++ s → (xs ≡ ys) × (r ≡ s)
list_once IsX fields once [] [] r s long xs_are ys_are e = (refl, e)
list_once IsX fields once [] (y ∷ ys) r s long xs_are ys_are e = absurd (omega arith)
list_once IsX fields once (x ∷ xs) [] r s long xs_are ys_are e = absurd (omega arith)
list_once {X = X} IsX fields once (x ∷ xs) (y ∷ ys) r s long xs_are ys_are e =
    let both = once x y (bytes_of (list_fields fields xs) ++ r) (bytes_of (list_fields fields ys) ++ s)
    (All-head IsX x xs xs_are) (All-head IsX y ys ys_are) (sym (list_behind fields x xs r) ∙ e ∙ list_behind fields y ys s) in
    let rests = list_once IsX fields once xs ys r s (omega arith) (All-tail IsX x xs xs_are) (All-tail IsX y ys ys_are) both.1 in
    let heads = both.0 in
    let tails = rests.0 in
    let lists : x ∷ xs ≡ y ∷ ys = cc in
    (lists, rests.1)

pub counted_once : {X : Type 0} (IsX : X → Type 0) (fields : X → List ObjField) (count : ℕ) → Once IsX fields → Once (IsCounted IsX count) (list_fields fields)
counted_once IsX fields count once xs ys r s xs_are ys_are e =
    list_once IsX fields once xs ys r s (xs_are.as_many ∙ sym ys_are.as_many) xs_are.each ys_are.each e

-- behind fewer things than there are comes one more
next_thing : {X : Type 0} (IsX : X → Type 0) (fields : X → List ObjField) → Once IsX fields
    → (ys read : List X) (r s : List ℕ) → All IsX ys → All IsX read → length read < length ys
    → bytes_of (list_fields fields ys) ++ s ≡ bytes_of (list_fields fields read) ++ r → BeginsSome IsX fields r
next_thing IsX fields once [] read r s ys_are read_are few e = absurd (omega arith)
next_thing IsX fields once (y ∷ ys) [] r s ys_are read_are few e = record {
  thing = y;
  rest = bytes_of (list_fields fields ys) ++ s;
  begins = record { limits = All-head IsX y ys ys_are; bytes_are = sym e ∙ list_behind fields y ys s };
}
next_thing IsX fields once (y ∷ ys) (x ∷ read) r s ys_are read_are few e =
    let both = once y x (bytes_of (list_fields fields ys) ++ s) (bytes_of (list_fields fields read) ++ r)
    (All-head IsX y ys ys_are) (All-head IsX x read read_are) (sym (list_behind fields y ys s) ∙ e ∙ list_behind fields x read r) in
    next_thing IsX fields once ys read r s (All-tail IsX y ys ys_are) (All-tail IsX x read read_are) (omega arith) both.1

-- a thing is a part of a list of so many, behind those that were read
pub list_part : {X : Type 0} (IsX : X → Type 0) (fields : X → List ObjField) → Once IsX fields → (blank : X) → IsX blank
    → (count : ℕ) (read : List X) → All IsX read → length read < count
    → IsPart IsX fields (IsCounted IsX count) (list_fields fields) (list_fields fields read)
list_part {X = X} IsX fields once blank is_blank count read read_are few =
    let more = count - length read - 1 in
    let make : X → List X = λ x. read ++ x ∷ replicate more blank in
    record {
      make = make;
      behind = λ x. list_fields fields (replicate more blank);
      limits = λ x is. record {
        as_many = let long = length-append read (x ∷ replicate more blank) in let blanks = length-replicate more blank in omega arith;
        each = All-append IsX read (x ∷ replicate more blank) read_are (All-cons IsX x (replicate more blank) is (All-replicate IsX more blank is_blank));
      };
      fields_are = λ x is. flat_map-append fields read (x ∷ replicate more blank);
      only = λ ys r s is e. next_thing IsX fields once ys read r s is.each read_are (let long = is.as_many in omega arith) e;
    }

-- one more thing is read
pub one_more : {X : Type 0} (IsX : X → Type 0) (fields : X → List ObjField) (all : List ℕ) (read now : List X) (x : X) (bytes rest : List ℕ)
    → all ≡ bytes_of (list_fields fields read) ++ bytes → Begins IsX fields bytes x rest → now ≡ read ++ x ∷ []
    → all ≡ bytes_of (list_fields fields now) ++ rest
one_more {X = X} IsX fields all read now x bytes rest so_far begins pushed =
    let one : list_fields fields (x ∷ []) ≡ fields x = append-nil (fields x) in
    let list : list_fields fields now ≡ list_fields fields read ++ fields x =
    ap (λ (l : List X). list_fields fields l) pushed ∙ flat_map-append fields read (x ∷ []) ∙ ap (λ l. list_fields fields read ++ l) one in
    so_far ∙ ap (λ l. bytes_of (list_fields fields read) ++ l) begins.bytes_are
    ∙ sym (bytes_behind (list_fields fields read) (fields x) rest)
    ∙ ap (λ l. bytes_of l ++ rest) (sym list)

-- a list of none is read without a byte
pub none_read : {X : Type 0} (fields : X → List ObjField) (bytes : List ℕ) (now : List X) → now ≡ [] → bytes ≡ bytes_of (list_fields fields now) ++ bytes
none_read {X = X} fields bytes now none = ap (λ (l : List X). bytes_of (list_fields fields l) ++ bytes) (sym none)

pub none_each : {X : Type 0} (IsX : X → Type 0) (now : List X) → now ≡ [] → All IsX now
none_each {X = X} IsX now none = subst (λ (l : List X). All IsX l) (sym none) (All-nil IsX)

pub pushed_each : {X : Type 0} (IsX : X → Type 0) (read now : List X) (x : X) → All IsX read → IsX x → now ≡ read ++ x ∷ [] → All IsX now
pushed_each {X = X} IsX read now x each is pushed = subst (λ (l : List X). All IsX l) (sym pushed) (All-push IsX read x each is)

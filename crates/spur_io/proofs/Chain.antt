-- One call of a source or a sink after another, and what one call moves.
use Rattle.std.proofs.Common.{◌≡◌, ℕ, ◌-◌, List, ◌++◌, length, take, drop, Option, Some, None, sym, ap, ◌∙◌, append_assoc}
use Rattle.std.proofs.lemmas.List.{take-append-drop, take_rest}
use Rattle.spur_io.specs.Told.{Loses, Gains}

-- what is lost first, and then what is lost after it
pub Loses-then : (a b c : Option (List ℕ)) (x y : List ℕ) → Loses a b x → Loses b c y → Loses a c (x ++ y)
Loses-then None None None x y p q = tt
Loses-then None None (Some c) x y p q = q
Loses-then None (Some b) c x y p q = absurd p
Loses-then (Some a) None c x y p q = absurd p
Loses-then (Some a) (Some b) None x y p q = q
Loses-then (Some a) (Some b) (Some c) x y p q = p ∙ ap (λ (w : List ℕ). x ++ w) q ∙ sym (append_assoc x y c)

-- what is gained first, and then what is gained after it
pub Gains-then : (a b c : Option (List ℕ)) (x y : List ℕ) → Gains a b x → Gains b c y → Gains a c (x ++ y)
Gains-then None None None x y p q = tt
Gains-then None None (Some c) x y p q = q
Gains-then None (Some b) c x y p q = absurd p
Gains-then (Some a) None None x y p q = tt
Gains-then (Some a) None (Some c) x y p q = absurd q
Gains-then (Some a) (Some b) None x y p q = tt
Gains-then (Some a) (Some b) (Some c) x y p q = q ∙ ap (λ (w : List ℕ). w ++ y) p ∙ append_assoc a x y

-- the text behind what is put now
pub put_more : (text done rest : List ℕ) (n : ℕ) → text ≡ done ++ rest → text ≡ (done ++ take n rest) ++ take (length rest - n) (drop n rest)
put_more text done rest n e = rw (take_rest rest n, append_assoc, take-append-drop) e

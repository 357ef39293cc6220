-- Accesses that are done change places in flat memory.
use Rattle.std.proofs.Common.{◌≡◌, ◌≢◌, ℕ, ◌+◌, ◌*◌, ◌/◌, ◌%◌, ◌^◌, ◌<◌, ◌≤◌, Bool, true, false, Option, Some, None, refl, sym, ap, ◌∙◌, subst, arith, List, slice_index, slice_set, if◌then◌else◌}
use Rattle.std.specs.Prelude.{⊤}
use Rattle.std.proofs.lemmas.List.{get_or-set_other, set_comm}
use Rattle.spur_addr.specs.Address.{is_aligned}
use Rattle.spur_addr.specs.PageEntry.{is_valid, number_of}
use Rattle.spur_flat.specs.declared.flat.Flat.{Flat}
use Rattle.spur_flat.specs.declared.access.AccessKind.{AccessKind}
use Rattle.spur_flat.specs.declared.access.AccessKind.TheVariants as access
use Rattle.spur_flat.specs.declared.entry.Entry.{Entry}
use Rattle.spur_flat.specs.declared.entry.Entry.TheVariants.{Load, Store, Tas, Fault}
use Rattle.spur_flat.specs.Access.{may}
use Rattle.spur_flat.specs.Table.{table_words, walk_of, place_in, place_of, data_word}
use Rattle.spur_flat.specs.Validity.{IsValidFlat}
use Rattle.spur_flat.specs.History.{on, with_word_at}
use Rattle.spur_flat.specs.Untold.{IsAllowedButValue}
use Rattle.spur_flat.specs.Laws.{address_of}
use Rattle.spur_flat.specs.StateLaws.{IsAccess}
use Rattle.spur_flat.proofs.WalkFacts.{data_within, done_is_valid, entry_at-same, valid-with_word, walk_of-entry}
use Rattle.spur_commute.specs.Apart.{written_by, AreOtherWords}

-- the word of an address stands in a frame
pub record IsPlaced (F : Flat) (g : ℕ) : Type 0 where
  pub entry : ℕ
  pub walked : walk_of F g ≡ Some entry
  pub valid : is_valid entry ≡ true
  pub small : g < 2 ^ 38

no_done : (aligned : Bool) → (if aligned then false else false) ≡ true → ⊥
no_done true h = cc
no_done false h = cc

placed_under : (F : Flat) (kind : AccessKind) (g : ℕ) (entry : Option ℕ) → g < 2 ^ 38 → walk_of F g ≡ entry → may entry kind g None ≡ true → IsPlaced F g
placed_under F kind g None small walked done = absurd (no_done (is_aligned g) done)
placed_under F kind g (Some e) small walked done = record { entry = e; walked = walked; valid = done_is_valid e kind g done; small = small }

pub placed : (F : Flat) (kind : AccessKind) (g : ℕ) → g < 2 ^ 38 → may (walk_of F g) kind g None ≡ true → IsPlaced F g
placed F kind g small done = placed_under F kind g (walk_of F g) small refl done

-- where that is
place_is : (F : Flat) (g : ℕ) (p : IsPlaced F g) → place_of F g ≡ number_of p.entry * 1024 + g / 2 ^ 2 % 1024
place_is F g p = ap (λ (e : Option ℕ). place_in e g) p.walked

-- past the tables
pub past : (F : Flat) (g : ℕ) → IsValidFlat F → IsPlaced F g → table_words F.tables ≤ place_of F g
past F g ok p = subst (λ (n : ℕ). table_words F.tables ≤ n) (sym (place_is F g p)) (data_within F g p.entry ok p.small p.walked p.valid).0

-- different words stand at different places: no two pages have the same frame
pub places_apart : (F : Flat) (g h : ℕ) → IsValidFlat F → IsPlaced F g → IsPlaced F h → g / 2 ^ 2 ≢ h / 2 ^ 2 → place_of F g ≢ place_of F h
places_apart F g h ok p q apart same =
    let small_g : g < 2 ^ 38 = p.small in
    let small_h : h < 2 ^ 38 = q.small in
    let at : number_of p.entry * 1024 + g / 2 ^ 2 % 1024 ≡ number_of q.entry * 1024 + h / 2 ^ 2 % 1024 = sym (place_is F g p) ∙ same ∙ place_is F h q in
    let frames : number_of p.entry ≡ number_of q.entry = omega arith in
    let pages : g / 2 ^ 12 ≡ h / 2 ^ 12 =
    ok.tables.frame_apart (g / 2 ^ 12) (h / 2 ^ 12) p.entry q.entry (omega arith) (omega arith) (sym (walk_of-entry F g) ∙ p.walked) (sym (walk_of-entry F h) ∙ q.walked) p.valid q.valid frames in
    apart (omega arith)

-- what an access puts: nothing, or a value in the word of an address
pub data Put : Type 0 where
  Nothing : Put
  At : ℕ → ℕ → Put

abbrev pub put_of : Entry → Put
put_of (Store board at value) = At at value
put_of (Tas board at old) = At at 1
put_of _ = Nothing

abbrev pub put : Flat → Put → Flat
put F Nothing = F
put F (At g value) = with_word_at F (place_of F g) value

pub on_put : (F : Flat) (entry : Entry) → IsAccess entry → on F entry ≡ put F (put_of entry)
on_put F (Load board at value) is = refl
on_put F (Store board at value) is = refl
on_put F (Tas board at old) is = refl
on_put F (Fault board kind access at) is = refl
on_put F entry is = absurd is

-- it may be put
abbrev pub MayPut : Flat → Put → Type 0
MayPut F Nothing = ⊤
MayPut F (At g value) = IsPlaced F g

pub may_put : (F : Flat) (entry : Entry) → IsAccess entry → address_of entry < 2 ^ 38 → IsAllowedButValue F entry → MayPut F (put_of entry)
may_put F (Load board at value) is small allowed = tt
may_put F (Store board at value) is small allowed = placed F access.Store at small allowed
may_put F (Tas board at old) is small allowed = placed F access.Tas at small allowed
may_put F (Fault board kind access at) is small allowed = tt
may_put F entry is small allowed = absurd is

-- the word that is put
abbrev pub word_put : Put → Option ℕ
word_put Nothing = None
word_put (At g value) = Some (g / 2 ^ 2)

pub written_is_put : (entry : Entry) → written_by entry ≡ word_put (put_of entry)
written_is_put (Store board at value) = refl
written_is_put (Tas board at old) = refl
written_is_put entry = refl

-- a flat state with another one's walks, and with its words, where a word is not put
pub walk_put : (F : Flat) (p : Put) (g : ℕ) → IsValidFlat F → MayPut F p → g < 2 ^ 38 → walk_of (put F p) g ≡ walk_of F g
walk_put F Nothing g ok can small = refl
walk_put F (At h value) g ok can small =
    let beyond : table_words F.tables ≤ place_of F h = past F h ok can in
    walk_of-entry (put F (At h value)) g
    ∙ entry_at-same F.words (slice_set F.words (place_of F h) value) F.pages F.tables F.frames ok.tables
    (λ k below. get_or-set_other F.words (place_of F h) k value 0 (λ (same : k ≡ place_of F h). omega arith)) (g / 2 ^ 12) (omega arith)
    ∙ sym (walk_of-entry F g)

pub place_put : (F : Flat) (p : Put) (g : ℕ) → IsValidFlat F → MayPut F p → g < 2 ^ 38 → place_of (put F p) g ≡ place_of F g
place_put F p g ok can small = ap (λ (e : Option ℕ). place_in e g) (walk_put F p g ok can small)

pub placed_put : (F : Flat) (p : Put) (g : ℕ) → IsValidFlat F → MayPut F p → IsPlaced F g → IsPlaced (put F p) g
placed_put F p g ok can is = record { entry = is.entry; walked = walk_put F p g ok can is.small ∙ is.walked; valid = is.valid; small = is.small }

pub unplaced_put : (F : Flat) (p : Put) (g : ℕ) → IsValidFlat F → MayPut F p → IsPlaced (put F p) g → IsPlaced F g
unplaced_put F p g ok can is = record { entry = is.entry; walked = sym (walk_put F p g ok can is.small) ∙ is.walked; valid = is.valid; small = is.small }

pub data_put : (F : Flat) (p : Put) (g : ℕ) → IsValidFlat F → MayPut F p → IsPlaced F g → AreOtherWords (word_put p) (Some (g / 2 ^ 2)) → data_word (put F p) g ≡ data_word F g
data_put F Nothing g ok can is other = refl
data_put F (At h value) g ok can is other =
    ap (λ (n : ℕ). slice_index (slice_set F.words (place_of F h) value) n) (place_put F (At h value) g ok can is.small)
    ∙ get_or-set_other F.words (place_of F h) (place_of F g) value 0 (λ same. places_apart F h g ok can is other (sym same))

pub valid_put : (F : Flat) (p : Put) → IsValidFlat F → MayPut F p → IsValidFlat (put F p)
valid_put F Nothing ok can = ok
valid_put F (At h value) ok can = valid-with_word F (slice_set F.words (place_of F h) value) (place_of F h) value ok (past F h ok can) refl

pub put_swaps : (F : Flat) (p q : Put) → IsValidFlat F → MayPut F p → MayPut F q → AreOtherWords (word_put p) (word_put q) → put (put F p) q ≡ put (put F q) p
put_swaps F Nothing q ok can may_q other = refl
put_swaps F (At g value) Nothing ok can may_q other = refl
put_swaps F (At g value) (At h word) ok can may_q other =
    ap (λ (n : ℕ). record F { words = slice_set (slice_set F.words (place_of F g) value) n word }) (place_put F (At g value) h ok can may_q.small)
    ∙ ap (λ (words : List ℕ). record F { words = words }) (set_comm F.words (place_of F g) (place_of F h) value word (places_apart F g h ok can may_q other))
    ∙ ap (λ (n : ℕ). record F { words = slice_set (slice_set F.words (place_of F h) word) n value }) (sym (place_put F (At h word) g ok may_q can.small))

-- A data word is written: the tables are what they were.
use Rattle.std.proofs.Common.{◌≡◌, ◌≢◌, ◌∙◌, ℕ, ◌+◌, ◌*◌, ◌/◌, ◌%◌, ◌^◌, ◌<◌, ◌≤◌, Bool, true, false, if◌then◌else◌, ap, refl, slice_set, slice_index, Option, Some, None, arith}
use Rattle.std.proofs.lemmas.List.{length-set, get_or-set_other}
use Rattle.spur_addr.specs.Address.{root_index_of, table_start}
use Rattle.spur_addr.specs.PageEntry.{is_valid, number_of}
use Rattle.spur_flat.specs.declared.flat.Flat.{Flat}
use Rattle.spur_flat.specs.Pager.{or_zero, word_of}
use Rattle.spur_flat.specs.Table.{place_in, place_of, walk_of}
use Rattle.spur_walk.specs.Tables.{HasTables, root_at}
use Rattle.spur_walk.proofs.AnswerFacts.{walk_there}
use Rattle.spur_walk.proofs.TableFacts.{index_small}
use Rattle.spur_walk.proofs.SameFacts.{SameTables}

-- the data word of a page that is valid
pub record IsData (F : Flat) (g : ℕ) : Type 0 where
  pub tables : HasTables F
  pub user : g < table_start
  pub valid : is_valid (word_of F g) ≡ true

abbrev pub data_place : Flat → ℕ → ℕ
data_place F g = number_of (word_of F g) * 1024 + g / 2 ^ 2 % 1024

abbrev pub stored : Flat → ℕ → ℕ → Flat
stored F g value = record F { words = slice_set F.words (data_place F g) value }

pub place_is : (F : Flat) (g : ℕ) → IsData F g → place_of F g ≡ data_place F g
place_is F g d = ap (λ (o : Option ℕ). place_in o g) (walk_there (walk_of F g) d.valid)

past : (F : Flat) (g : ℕ) → IsData F g → 2 ^ 16 ≤ data_place F g
past F g d =
    let low : 64 ≤ number_of (word_of F g) = (d.tables.frame g d.user d.valid).low in
    omega arith

root_kept : (F : Flat) (g value r : ℕ) → IsData F g → r < 2 ^ 16 → slice_index (stored F g value).words r ≡ slice_index F.words r
root_kept F g value r d few = let low : 2 ^ 16 ≤ data_place F g = past F g d in get_or-set_other F.words (data_place F g) r value 0 (λ (same : r ≡ data_place F g). omega arith)

abbrev under : Bool → ℕ → ℕ
under b n = or_zero (if b then Some n else None)

apart_places : (F : Flat) (g to : ℕ) → IsData F g → to < table_start → is_valid (root_at F to) ≡ true → number_of (root_at F to) * 1024 + to / 2 ^ 12 % 1024 ≢ data_place F g
apart_places F g to d user valid same =
    let is : number_of (root_at F to) * 1024 + to / 2 ^ 12 % 1024 ≡ number_of (word_of F g) * 1024 + g / 2 ^ 2 % 1024 = same in
    let numbers : number_of (word_of F g) ≡ number_of (root_at F to) = omega arith in
    d.tables.table_apart g (root_index_of to) d.user (index_small to user) d.valid valid numbers

word_under : (F : Flat) (g value to : ℕ) (b : Bool) → IsData F g → to < table_start → is_valid (root_at F to) ≡ b
    → under b (slice_index (stored F g value).words (number_of (root_at F to) * 1024 + to / 2 ^ 12 % 1024)) ≡ under b (slice_index F.words (number_of (root_at F to) * 1024 + to / 2 ^ 12 % 1024))
word_under F g value to false d user valid = refl
word_under F g value to true d user valid = get_or-set_other F.words (data_place F g) (number_of (root_at F to) * 1024 + to / 2 ^ 12 % 1024) value 0 (apart_places F g to d user valid)

small_root : (to : ℕ) → to < table_start → to / 2 ^ 22 < 2 ^ 16
small_root to user = let u : to < 255 * 2 ^ 30 = user in let r : to / 2 ^ 22 < 2 ^ 16 = omega arith in r

word_kept : (F : Flat) (g value to : ℕ) → IsData F g → to < table_start → word_of (stored F g value) to ≡ word_of F to
word_kept F g value to d user =
    ap (λ (r : ℕ). under (is_valid r) (slice_index (stored F g value).words (number_of r * 1024 + to / 2 ^ 12 % 1024))) (root_kept F g value (to / 2 ^ 22) d (small_root to user))
    ∙ word_under F g value to (is_valid (root_at F to)) d user refl

pub same-stored : (F : Flat) (g value : ℕ) → IsData F g → SameTables F (stored F g value)
same-stored F g value d = record {
  size = length-set F.words (data_place F g) value;
  root = λ (r : ℕ) (few : r < 2 ^ 16). root_kept F g value r d few;
  word = λ (to : ℕ) (user : to < table_start). word_kept F g value to d user;
}

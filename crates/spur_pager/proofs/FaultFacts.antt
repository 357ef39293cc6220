-- A Reference or a Dirty fault is served by one bit.
use Rattle.std.proofs.Common.{◌≡◌, ◌≤◌, ◌∙◌, ℕ, ◌+◌, ◌<◌, ◌&&◌, Bool, true, false, not, ap, sym, refl, subst, [], ◌∷◌, length, Option, Some, None, Ok}
use Rattle.spur_addr.specs.Address.{entry_address_of, page_of, table_start, page_address}
use Rattle.spur_addr.specs.PageEntry.{is_dirty, is_leaving, is_referenced, is_valid, protection_of}
use Rattle.spur_addr.specs.declared.page_entry.Protection.{Protection}
use Rattle.spur_addr.specs.declared.page_entry.Protection.TheVariants.{Nothing, ReadOnly, ReadWrite}
use Rattle.spur_flat.specs.declared.access.AccessKind.{AccessKind}
use Rattle.spur_flat.specs.declared.access.FaultKind.{FaultKind}
use Rattle.spur_flat.specs.declared.access.FaultKind.TheVariants as fault
use Rattle.spur_flat.specs.declared.flat.Flat.{Flat}
use Rattle.spur_flat.specs.Access.{allows, grants, is_write, may_aligned}
use Rattle.spur_flat.specs.Pager.{is_read_write, may_set_dirty, may_set_referenced, or_zero, word_of}
use Rattle.spur_flat.specs.Table.{walk_of}
use Rattle.spur_snoop.specs.Protocol.{is_exclusive}
use Rattle.spur_bus.specs.Calls.{HasLine}
use Rattle.spur_walk.specs.Laws.{IsStanding}
use Rattle.spur_walk.proofs.AnswerFacts.{fault-applies}
use Rattle.spur_pager.specs.declared.change.Change.{Change}
use Rattle.spur_pager.specs.declared.change.Change.TheVariants.{Referenced, Dirty}
use Rattle.spur_pager.specs.View.{View}
use Rattle.spur_pager.specs.Stand.{Stands, entry_in, flat_in, standing_flat}
use Rattle.spur_pager.specs.Acts.{Writes}
use Rattle.spur_pager.specs.Changes.{changed_word, entry_for, hold_entry}
use Rattle.spur_pager.specs.Room.{entry_room}
use Rattle.spur_pager.specs.Served.{HasFault, ServesAs, hold_of, word_after}
use Rattle.spur_pager.proofs.ServiceFacts.{entry_at, same_entry_address, served_as}
use Rattle.spur_pager.specs.Runs.{Runs}
use Rattle.spur_pager.specs.Marks.{IsMarked, MayMark}
use Rattle.spur_pager.proofs.EntryFacts.{page_again, page_user, user_page, valid_declared}
use Rattle.spur_flat.proofs.FormedFacts.{page_address_starts}
use Rattle.spur_pager.proofs.PlaceFacts.{word_page}
use Rattle.std.proofs.lemmas.Bool.{and_parts}

-- the mark of a bit is all that is asked
marked_served : (b : ℕ) (w v : View) (at : ℕ) (change : Change) → IsMarked b (page_address (page_of at)) change w v → (word : ℕ) → changed_word change (entry_in w (page_of at)) ≡ word
    → (entry_in v (page_of at) ≡ word) × (word_of (flat_in v) at ≡ word) × HasLine v.caches b (entry_address_of at) is_exclusive
marked_served b w v at change m word is =
    let now : entry_in v (page_of at) ≡ word = m.word ∙ is in
    (now, sym (entry_at v at) ∙ now, subst (λ (n : ℕ). HasLine v.caches b n is_exclusive) (same_entry_address at) m.exclusive)

pub reference_served : (b : ℕ) (w v : View) (at : ℕ) → Runs b (Writes (page_address (page_of at)) (entry_for Referenced b (page_address (page_of at))) (changed_word Referenced) ∷ []) w v
    → IsMarked b (page_address (page_of at)) Referenced w v → w.room ≤ v.room + entry_room → v.frames ≡ w.frames → ServesAs b w fault.Reference at (Ok (tt {0})) v
reference_served b w v at r m used frames =
    let is = marked_served b w v at Referenced m (word_after b w fault.Reference at) refl in
    served_as b w v fault.Reference at (Ok (tt {0})) r used frames (record { word = is.0; walk = is.1; exclusive = is.2; free = λ h. cc })

pub dirty_served : (b : ℕ) (w v : View) (at : ℕ) → Runs b (Writes (page_address (page_of at)) (entry_for Dirty b (page_address (page_of at))) (changed_word Dirty) ∷ []) w v
    → IsMarked b (page_address (page_of at)) Dirty w v → w.room ≤ v.room + entry_room → v.frames ≡ w.frames → ServesAs b w fault.Dirty at (Ok (tt {0})) v
dirty_served b w v at r m used frames =
    let is = marked_served b w v at Dirty m (word_after b w fault.Dirty at) refl in
    served_as b w v fault.Dirty at (Ok (tt {0})) r used frames (record { word = is.0; walk = is.1; exclusive = is.2; free = λ h. cc })

-- what a fault says of the page's entry
four : (v l r a : Bool) → (v && not l && not r && a) ≡ true → (v && not r) ≡ true
four true l false a h = refl
four true true true a h = cc
four true false true a h = cc
four false l r a h = cc

unreferenced : (o : Option ℕ) (access : AccessKind) → may_aligned o access (Some fault.Reference) ≡ true → may_set_referenced (or_zero o) ≡ true
unreferenced None access h = cc
unreferenced (Some e) access h = four (is_valid e) (is_leaving e) (is_referenced e) (allows e access) h

write_rw : (p : Protection) (access : AccessKind) (x : Bool) → (x && grants p access && is_write access) ≡ true → (x && is_read_write p) ≡ true
write_rw Nothing access true h = cc
write_rw Nothing access false h = cc
write_rw ReadOnly access true h = read_only (is_write access) h
  where
    read_only : (b : Bool) → (not b && b) ≡ true → false ≡ true
    read_only true h = cc
    read_only false h = cc
write_rw ReadOnly access false h = cc
write_rw ReadWrite access true h = refl
write_rw ReadWrite access false h = cc

drop_leaving : (v l d x y : Bool) → (v && not l && not d && x && y) ≡ true → ((v && not d) && x && y) ≡ true
drop_leaving true false false x y h = h
drop_leaving true false true x y h = cc
drop_leaving true true d x y h = cc
drop_leaving false l d x y h = cc

clean : (o : Option ℕ) (access : AccessKind) → may_aligned o access (Some fault.Dirty) ≡ true → may_set_dirty (or_zero o) ≡ true
clean None access h = cc
clean (Some e) access h =
    let all : ((is_valid e && not (is_dirty e)) && grants (protection_of e) access && is_write access) ≡ true = drop_leaving (is_valid e) (is_leaving e) (is_dirty e) (allows e access) (is_write access) h in
    by_two (is_valid e) (is_dirty e) (is_read_write (protection_of e)) (write_rw (protection_of e) access (is_valid e && not (is_dirty e)) all)
  where
    by_two : (v d p : Bool) → ((v && not d) && p) ≡ true → (v && not d && p) ≡ true
    by_two true false p h = h
    by_two true true p h = cc
    by_two false d p h = cc

-- what the fault says of the page's entry, in each state that stands
pub answer_may : (w : View) (rest : Flat) (b at : ℕ) (kind : FaultKind) → Stands rest w → b < length w.caches → at < table_start → (f : HasFault w b kind at) → may_aligned (walk_of (standing_flat rest w) at) f.access (Some kind) ≡ true
answer_may w rest b at kind st within user f =
    let standing : IsStanding w.caches w.memory b at = record { walk = st.walk; present = st.present; own = within; user = user } in
    fault-applies w.caches w.memory b at f.access kind standing f.answers

pub reference_may : (w : View) (rest : Flat) (b at : ℕ) → Stands rest w → b < length w.caches → at < table_start → HasFault w b fault.Reference at → MayMark w b (page_address (page_of at)) Referenced
reference_may w some b at st within user f =
    let g : ℕ = page_address (page_of at) in
    let here : (rest : Flat) → Stands rest w → may_set_referenced (word_of (standing_flat rest w) g) ≡ true =
    λ (rest : Flat) (s : Stands rest w). ap may_set_referenced (word_page (standing_flat rest w) g at (page_again (page_of at))) ∙ unreferenced (walk_of (standing_flat rest w) at) f.access (answer_may w rest b at fault.Reference s within user f) in
    let user_g = page_user (page_of at) (user_page at user) in
    record {
      is = tt;
      user = user_g;
      starts = page_address_starts (page_of at);
      within = within;
      valid = (and_parts (is_valid (hold_entry (hold_of w) g)) (not (is_referenced (hold_entry (hold_of w) g))) (here some st)).0;
      allowed = λ (rest : Flat) (s : Stands rest w).
          let F : Flat = standing_flat rest w in
          record { declared = valid_declared F g s.valid user_g ((and_parts (is_valid (word_of F g)) (not (is_referenced (word_of F g))) (here rest s)).0); entry = here rest s };
    }

pub dirty_may : (w : View) (rest : Flat) (b at : ℕ) → Stands rest w → b < length w.caches → at < table_start → HasFault w b fault.Dirty at → MayMark w b (page_address (page_of at)) Dirty
dirty_may w some b at st within user f =
    let g : ℕ = page_address (page_of at) in
    let here : (rest : Flat) → Stands rest w → may_set_dirty (word_of (standing_flat rest w) g) ≡ true =
    λ (rest : Flat) (s : Stands rest w). ap may_set_dirty (word_page (standing_flat rest w) g at (page_again (page_of at))) ∙ clean (walk_of (standing_flat rest w) at) f.access (answer_may w rest b at fault.Dirty s within user f) in
    let user_g = page_user (page_of at) (user_page at user) in
    record {
      is = tt;
      user = user_g;
      starts = page_address_starts (page_of at);
      within = within;
      valid = (and_parts (is_valid (hold_entry (hold_of w) g)) (not (is_dirty (hold_entry (hold_of w) g)))
          ((and_parts (is_valid (hold_entry (hold_of w) g) && not (is_dirty (hold_entry (hold_of w) g))) (is_read_write (protection_of (hold_entry (hold_of w) g))) (here some st)).0)).0;
      allowed = λ (rest : Flat) (s : Stands rest w).
          let F : Flat = standing_flat rest w in
          record {
            declared = valid_declared F g s.valid user_g ((and_parts (is_valid (word_of F g)) (not (is_dirty (word_of F g)))
                ((and_parts (is_valid (word_of F g) && not (is_dirty (word_of F g))) (is_read_write (protection_of (word_of F g))) (here rest s)).0)).0);
            entry = here rest s;
          };
    }

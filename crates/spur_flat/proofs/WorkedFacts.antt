-- The histories that are worked out: by computing.
use Rattle.std.proofs.Common.{◌≡◌, Option, Some, None, refl}
use Rattle.spur_flat.specs.declared.illegal.Illegal.{Illegal}
use Rattle.spur_flat.specs.declared.illegal.Clause.TheVariants.{Needed}
use Rattle.spur_flat.specs.Refused.{or_else}
use Rattle.spur_flat.specs.Refusal.{refusal_of}
use Rattle.spur_flat.specs.TagLines.{tags_on}
use Rattle.spur_flat.specs.TagRules.{tags_refusal}
use Rattle.spur_flat.specs.Worked.{ClaimedEntryIsGreedy, ClaimedEntryIsRefused, ManyLinesAreNeeded, OneLineIsNeeded, OtherLineIsRefused, OtherLineIsUseless, OtherRootIsUseless, OtherRootIsRefused, OwnedRootIsGreedy, OwnedRootIsRefused, SeventhIsTooMany, SeventhIsRefused, SixthIsNot, claimed_entry, load, missing, one_fill, other_line, other_root, owned_root}
use Rattle.spur_flat.proofs.AccessFacts.{refused-unless-allowed}

pub many-lines-are-needed : ManyLinesAreNeeded
many-lines-are-needed = (refl, (refl, (refl, (refl, (refl, (refl, (refl, (refl, (refl, (refl, (refl, (refl, tt))))))))))))

pub one-line-is-needed : OneLineIsNeeded
one-line-is-needed = (refl, (refl, (refl, (refl, (refl, (refl, (refl, (refl, (refl, (refl, (refl, (refl, (refl, (refl, (refl, (refl, tt))))))))))))))))

pub other-root-is-useless : OtherRootIsUseless
other-root-is-useless = refl

pub owned-root-is-greedy : OwnedRootIsGreedy
owned-root-is-greedy = refl

pub seventh-is-too-many : SeventhIsTooMany
seventh-is-too-many = refl

pub sixth-is-not : SixthIsNot
sixth-is-not = (refl, (refl, (refl, (refl, (refl, (refl, tt))))))

pub other-line-is-useless : OtherLineIsUseless
other-line-is-useless = refl

pub claimed-entry-is-greedy : ClaimedEntryIsGreedy
claimed-entry-is-greedy = refl

-- a refusal that comes after three rules which do not refuse
comes_after : (first second third : Option Illegal) (why : Illegal) → first ≡ None → second ≡ None → third ≡ None
    → or_else (or_else first None) (or_else (or_else second (or_else third (Some why))) None) ≡ Some why
comes_after None None None why a b c = refl
comes_after (Some first) second third why a b c = cc
comes_after None (Some second) third why a b c = cc
comes_after None None (Some third) why a b c = cc

comes_second : (first : Option Illegal) (why : Illegal) → first ≡ None → or_else first (Some why) ≡ Some why
comes_second None why a = refl
comes_second (Some first) why a = cc

-- which is by the open entries of a legal and tagged history
pub other-root-is-refused : OtherRootIsRefused
other-root-is-refused F T legal tagged =
    comes_after (tags_refusal F T other_root) (refusal_of F missing) None (record { clause = Needed; wanted = 2; found = 1 })
    tagged.0 ((refused-unless-allowed F missing).1 legal.1.0) refl

pub owned-root-is-refused : OwnedRootIsRefused
owned-root-is-refused F T legal tagged =
    comes_after (tags_refusal F T owned_root) (refusal_of F missing) None (record { clause = Needed; wanted = 3; found = 1 })
    tagged.0 ((refused-unless-allowed F missing).1 legal.1.0) refl

pub other-line-is-refused : OtherLineIsRefused
other-line-is-refused F T legal tagged =
    comes_after (tags_refusal F T other_line) (refusal_of F missing) None (record { clause = Needed; wanted = 2; found = 1 })
    tagged.0 ((refused-unless-allowed F missing).1 legal.1.0) refl

pub claimed-entry-is-refused : ClaimedEntryIsRefused
claimed-entry-is-refused F T legal tagged =
    comes_after (tags_refusal F T claimed_entry) (refusal_of F load) (tags_refusal F (tags_on F T claimed_entry) load) (record { clause = Needed; wanted = 3; found = 1 })
    tagged.0 ((refused-unless-allowed F load).1 legal.1.0) tagged.1.0

pub seventh-is-refused : SeventhIsRefused
seventh-is-refused F T numbers tagged = comes_second (tags_refusal F T one_fill) (record { clause = Needed; wanted = 1; found = 7 }) tagged

-- A flaw that has numbers, each converted before it is written.
use Rattle.std.proofs.Common.{◌∙◌, ℕ, ap, sym, codes}
use Rattle.refusals.specs.Captures.{flaw_text, with_number}
use Rattle.refusals.proofs.Joined.{then_ok, behind, named}
use Rattle.refusals.proofs.capture.put_flaw.Goals as goal

pub returns-in_ok-put_with_number-in-Version : goal.returns-in_ok-put_with_number-in-Version
unfolding flaw_text
returns-in_ok-put_with_number-in-Version c =
    then_ok c.put_with_number-in-Version.result c.put_with_number-in-Version.ensures
    (λ last.
    named _ _ _ _
    (behind _ _ _ _ _
    (named _ _ _ _ c.in_ok-put_with_number-in-Version.ensures (ap (λ (n : ℕ). with_number (codes "its version is ") n (codes ".")) c.from.ensures))
    (named _ _ _ _ last (ap (λ (n : ℕ). with_number (codes "") n (codes ", and 2.4 alone is read")) c.from-in-Version.ensures)))
    (ap flaw_text (sym c.in-Version.is)))

pub returns-in-LinkType : goal.returns-in-LinkType
unfolding flaw_text
returns-in-LinkType c =
    then_ok c.put_with_number-in-LinkType.result c.put_with_number-in-LinkType.ensures
    (λ last.
    named _ _ _ _ last
    (ap (λ (n : ℕ). with_number (codes "its link type is ") n (codes ", which isn't read: capture on one interface, as by tcpdump -i eth0, and not on any")) c.from-in-LinkType.ensures
    ∙ ap flaw_text (sym c.in-LinkType.is)))

pub returns-in-SectionVersion : goal.returns-in-SectionVersion
unfolding flaw_text
returns-in-SectionVersion c =
    then_ok c.put_with_number-in-SectionVersion.result c.put_with_number-in-SectionVersion.ensures
    (λ last.
    named _ _ _ _ last
    (ap (λ (n : ℕ). with_number (codes "the major version of its first section is ") n (codes ", and 1 alone is read")) c.from-in-SectionVersion.ensures
    ∙ ap flaw_text (sym c.in-SectionVersion.is)))

pub returns-in-SectionLength : goal.returns-in-SectionLength
unfolding flaw_text
returns-in-SectionLength c =
    then_ok c.put_with_number-in-SectionLength.result c.put_with_number-in-SectionLength.ensures
    (λ last.
    named _ _ _ _ last
    (ap (λ (n : ℕ). with_number (codes "its first block isn't of ") n (codes " bytes, as it says: it is cut off, or says so at its front alone, or a block can't have so many")) c.from-in-SectionLength.ensures
    ∙ ap flaw_text (sym c.in-SectionLength.is)))

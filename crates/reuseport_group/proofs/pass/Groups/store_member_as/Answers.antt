use Rattle.std.proofs.Common.{rules, arith, suc, sym, ◌∙◌}
use Rattle.reuseport_group.proofs.Uses.{stores_word, did, keeps_word, found, member_word, one_stored, looked_stored, follows_more, follows_look, hand_kept, look_empty, look_parts}
use Rattle.reuseport_group.proofs.pass.Groups.store_member_as.Goals as goal

pub load-requires : goal.load-requires
load-requires g c = (search rules, search rules, keeps_word _ _ _ _ _ _ _ (suc c.args.place) _ _ _ (search rules) c.requires.told.0 c.requires.told.1 (member_word _ c.args.place _ c.word-word.ensures.is) c.requires.group (omega (arith, c.requires.place)) c.requires.few c.requires.part (λ z. absurd (omega arith)))

pub store-requires : goal.store-requires
store-requires g c =
    let o = (found 0 _ _ _ _ (suc c.args.place) _ _ _ _ c.requires.told.0 c.requires.told.1 (member_word _ c.args.place _ c.word-word.ensures.is) (omega (arith, c.requires.place)) c.load.ensures.2).other (λ e. c.if-load-member.true (e ∙ sym c.member_at-member.ensures)) in
    (search rules, search rules, stores_word _ _ _ _ _ _ _ (suc c.args.place) _ _ _ _ (search rules) c.requires.told.0 c.requires.told.1 (member_word _ c.args.place _ c.word-word.ensures.is) c.member_at-member.ensures c.requires.group (omega (arith, c.requires.place)) c.requires.few (look_parts _ _ c.requires.part o) (λ z. absurd (omega arith)))

pub invariant_of-passes : goal.invariant_of-passes
invariant_of-passes g c =
    let o = (found 0 _ _ _ _ (suc c.args.place) _ _ _ _ c.requires.told.0 c.requires.told.1 (member_word _ c.args.place _ c.word-word.ensures.is) (omega (arith, c.requires.place)) c.load.ensures.2).other (λ e. c.if-load-member.true (e ∙ sym c.member_at-member.ensures)) in
    let t = did 0 _ _ _ _ (suc c.args.place) _ _ _ 0 c.requires.told.0 c.requires.told.1 (member_word _ c.args.place _ c.word-word.ensures.is) (omega (arith, c.requires.place)) c.store.ensures.2 in
    record { free = hand_kept _ _ _ _ _ (look_empty _ _ c.args.passes.now.free o) t }

pub invariant_of-passes-else-load-member : goal.invariant_of-passes-else-load-member
invariant_of-passes-else-load-member g c =
    let t = (found 0 _ _ _ _ (suc c.args.place) _ _ _ _ c.requires.told.0 c.requires.told.1 (member_word _ c.args.place _ c.word-word.ensures.is) (omega (arith, c.requires.place)) c.load.ensures.2).same (c.if-load-member.false ∙ c.member_at-member.ensures) in
    record { free = hand_kept _ _ _ _ _ c.args.passes.now.free t }

pub returns-then-load-member-clause-view : goal.returns-then-load-member-clause-view
returns-then-load-member-clause-view g c =
    let o = (found 0 _ _ _ _ (suc c.args.place) _ _ _ _ c.requires.told.0 c.requires.told.1 (member_word _ c.args.place _ c.word-word.ensures.is) (omega (arith, c.requires.place)) c.load.ensures.2).other (λ e. c.if-load-member.true (e ∙ sym c.member_at-member.ensures)) in
    let t = did 0 _ _ _ _ (suc c.args.place) _ _ _ 0 c.requires.told.0 c.requires.told.1 (member_word _ c.args.place _ c.word-word.ensures.is) (omega (arith, c.requires.place)) c.store.ensures.2 in
    looked_stored _ (suc c.args.place) _ _ _ _ _ (omega arith) o t

pub returns-then-load-member-clause-later : goal.returns-then-load-member-clause-later
returns-then-load-member-clause-later g c =
    let o = (found 0 _ _ _ _ (suc c.args.place) _ _ _ _ c.requires.told.0 c.requires.told.1 (member_word _ c.args.place _ c.word-word.ensures.is) (omega (arith, c.requires.place)) c.load.ensures.2).other (λ e. c.if-load-member.true (e ∙ sym c.member_at-member.ensures)) in
    let t = did 0 _ _ _ _ (suc c.args.place) _ _ _ 0 c.requires.told.0 c.requires.told.1 (member_word _ c.args.place _ c.word-word.ensures.is) (omega (arith, c.requires.place)) c.store.ensures.2 in
    follows_more _ _ _ _ _ _ (follows_look _ _ o) t

pub returns-else-load-member-clause-view : goal.returns-else-load-member-clause-view
returns-else-load-member-clause-view g c =
    let t = (found 0 _ _ _ _ (suc c.args.place) _ _ _ _ c.requires.told.0 c.requires.told.1 (member_word _ c.args.place _ c.word-word.ensures.is) (omega (arith, c.requires.place)) c.load.ensures.2).same (c.if-load-member.false ∙ c.member_at-member.ensures) in
    one_stored _ (suc c.args.place) _ _ _ _ (omega arith) t

pub returns-else-load-member-clause-later : goal.returns-else-load-member-clause-later
returns-else-load-member-clause-later g c =
    let t = (found 0 _ _ _ _ (suc c.args.place) _ _ _ _ c.requires.told.0 c.requires.told.1 (member_word _ c.args.place _ c.word-word.ensures.is) (omega (arith, c.requires.place)) c.load.ensures.2).same (c.if-load-member.false ∙ c.member_at-member.ensures) in
    follows_more _ _ _ _ _ _ (λ h p. p) t

-- Two kinds are the same where the test or their numbers say so, and so is a state that listens.
use Rattle.std.proofs.Common.{◌≡◌, true, refl, sym, subst, ap, ◌∙◌}
use Rattle.std.proofs.lemmas.Bool.{true≢false}
use Rattle.sock_card.specs.declared.card.Kind.{Kind}
use Rattle.sock_card.specs.declared.card.Kind.TheVariants as kinds
use Rattle.sock_card.specs.declared.owner.State.{State}
use Rattle.sock_card.specs.declared.owner.State.TheVariants as states
use Rattle.sock_card.specs.Kinds.{same_kind}
use Rattle.sock_card.specs.Words.{number_of, kind_at}
use Rattle.sock_card.specs.Conflict.{is_listening}

pub kind_is : (a b : Kind) → same_kind a b ≡ true → a ≡ b
kind_is kinds.Full kinds.Full e = refl
kind_is kinds.TimeWait kinds.TimeWait e = refl
kind_is kinds.Listen kinds.Listen e = refl
kind_is kinds.Request kinds.Request e = refl
kind_is kinds.Full kinds.TimeWait e = absurd (true≢false (sym e))
kind_is kinds.Full kinds.Listen e = absurd (true≢false (sym e))
kind_is kinds.TimeWait kinds.Full e = absurd (true≢false (sym e))
kind_is kinds.TimeWait kinds.Listen e = absurd (true≢false (sym e))
kind_is kinds.Listen kinds.Full e = absurd (true≢false (sym e))
kind_is kinds.Listen kinds.TimeWait e = absurd (true≢false (sym e))
kind_is kinds.Full kinds.Request e = absurd (true≢false (sym e))
kind_is kinds.Request kinds.Full e = absurd (true≢false (sym e))
kind_is kinds.TimeWait kinds.Request e = absurd (true≢false (sym e))
kind_is kinds.Request kinds.TimeWait e = absurd (true≢false (sym e))
kind_is kinds.Listen kinds.Request e = absurd (true≢false (sym e))
kind_is kinds.Request kinds.Listen e = absurd (true≢false (sym e))

pub kind_itself : (a : Kind) → same_kind a a ≡ true
kind_itself kinds.Full = refl
kind_itself kinds.TimeWait = refl
kind_itself kinds.Listen = refl
kind_itself kinds.Request = refl

pub kinds_same : (a b : Kind) → a ≡ b → same_kind a b ≡ true
kinds_same a b e = subst (λ k. same_kind a k ≡ true) e (kind_itself a)

kind_back : (k : Kind) → kind_at (number_of k) ≡ k
kind_back kinds.Full = refl
kind_back kinds.TimeWait = refl
kind_back kinds.Listen = refl
kind_back kinds.Request = refl

-- kinds with one number are one
pub kind_by : (k l : Kind) → number_of k ≡ number_of l → k ≡ l
kind_by k l e = sym (kind_back k) ∙ ap kind_at e ∙ kind_back l

-- what listens by the test is in that state
pub listening_is : (t : State) → is_listening t ≡ true → t ≡ states.Listening
listening_is states.Listening h = refl
listening_is states.Unbound h = absurd (true≢false (sym h))
listening_is states.Bound h = absurd (true≢false (sym h))
listening_is states.Full h = absurd (true≢false (sym h))
listening_is states.TimeWait h = absurd (true≢false (sym h))
listening_is states.Request h = absurd (true≢false (sym h))

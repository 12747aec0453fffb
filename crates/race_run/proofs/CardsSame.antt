-- Whether two cards are one, as a test.
use Rattle.std.proofs.Common.{◌≡◌, ℕ, Bool, true, ◌&&◌, ◌==◌, refl, ap, ◌∙◌}
use Rattle.std.proofs.lemmas.Bool.{and_parts, and_from, eqb-true, eq-eqb}
use Rattle.sock_card.specs.declared.card.Card.{Card}
use Rattle.sock_card.specs.declared.card.Kind.{Kind}
use Rattle.sock_card.specs.Kinds.{same_kind}
use Rattle.sock_card.proofs.SameKinds.{kind_is, kind_itself}

abbrev same_ends : Card → Card → Bool
same_ends a b = (a.local == b.local) && ((a.lport == b.lport) && ((a.remote == b.remote) && (a.rport == b.rport)))

abbrev same_rest : Card → Card → Bool
same_rest a b =
    (a.dev == b.dev) && ((a.net == b.net) && (same_kind a.kind b.kind && ((a.name == b.name) && ((a.extra == b.extra) && (a.mark == b.mark)))))

-- all that one says the other says
abbrev pub is_card : Card → Card → Bool
is_card a b = same_ends a b && same_rest a b

-- a card, by what it says
abbrev saying : ℕ → ℕ → ℕ → ℕ → ℕ → ℕ → Kind → ℕ → ℕ → ℕ → Card
saying local lport remote rport dev net kind name extra mark = record {
  local = local;
  lport = lport;
  remote = remote;
  rport = rport;
  dev = dev;
  net = net;
  kind = kind;
  name = name;
  extra = extra;
  mark = mark;
}

pub card_is : (a b : Card) → is_card a b ≡ true → a ≡ b
card_is a b h =
    let both = and_parts (same_ends a b) (same_rest a b) h in
    let e1 = and_parts (a.local == b.local) _ both.0 in
    let e2 = and_parts (a.lport == b.lport) _ e1.1 in
    let e3 = and_parts (a.remote == b.remote) _ e2.1 in
    let r1 = and_parts (a.dev == b.dev) _ both.1 in
    let n1 = and_parts (a.net == b.net) _ r1.1 in
    let r2 = and_parts (same_kind a.kind b.kind) _ n1.1 in
    let r3 = and_parts (a.name == b.name) _ r2.1 in
    let r4 = and_parts (a.extra == b.extra) _ r3.1 in
    ap (λ (x : ℕ). saying x a.lport a.remote a.rport a.dev a.net a.kind a.name a.extra a.mark) (eqb-true a.local b.local e1.0)
    ∙ (ap (λ (x : ℕ). saying b.local x a.remote a.rport a.dev a.net a.kind a.name a.extra a.mark) (eqb-true a.lport b.lport e2.0)
    ∙ (ap (λ (x : ℕ). saying b.local b.lport x a.rport a.dev a.net a.kind a.name a.extra a.mark) (eqb-true a.remote b.remote e3.0)
    ∙ (ap (λ (x : ℕ). saying b.local b.lport b.remote x a.dev a.net a.kind a.name a.extra a.mark) (eqb-true a.rport b.rport e3.1)
    ∙ (ap (λ (x : ℕ). saying b.local b.lport b.remote b.rport x a.net a.kind a.name a.extra a.mark) (eqb-true a.dev b.dev r1.0)
    ∙ (ap (λ (x : ℕ). saying b.local b.lport b.remote b.rport b.dev x a.kind a.name a.extra a.mark) (eqb-true a.net b.net n1.0)
    ∙ (ap (λ (x : Kind). saying b.local b.lport b.remote b.rport b.dev b.net x a.name a.extra a.mark) (kind_is a.kind b.kind r2.0)
    ∙ (ap (λ (x : ℕ). saying b.local b.lport b.remote b.rport b.dev b.net b.kind x a.extra a.mark) (eqb-true a.name b.name r3.0)
    ∙ (ap (λ (x : ℕ). saying b.local b.lport b.remote b.rport b.dev b.net b.kind b.name x a.mark) (eqb-true a.extra b.extra r4.0)
    ∙ ap (λ (x : ℕ). saying b.local b.lport b.remote b.rport b.dev b.net b.kind b.name b.extra x) (eqb-true a.mark b.mark r4.1)))))))))

pub card_itself : (a : Card) → is_card a a ≡ true
card_itself a =
    and_from (same_ends a a) (same_rest a a)
    (and_from (a.local == a.local) _ (eq-eqb a.local a.local refl)
    (and_from (a.lport == a.lport) _ (eq-eqb a.lport a.lport refl)
    (and_from (a.remote == a.remote) _ (eq-eqb a.remote a.remote refl) (eq-eqb a.rport a.rport refl))))
    (and_from (a.dev == a.dev) _ (eq-eqb a.dev a.dev refl)
    (and_from (a.net == a.net) _ (eq-eqb a.net a.net refl)
    (and_from (same_kind a.kind a.kind) _ (kind_itself a.kind)
    (and_from (a.name == a.name) _ (eq-eqb a.name a.name refl)
    (and_from (a.extra == a.extra) _ (eq-eqb a.extra a.extra refl) (eq-eqb a.mark a.mark refl))))))

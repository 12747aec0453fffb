use Rattle.std.proofs.Common.{◌≡◌, ◌<◌, [], length, List, ℕ, subst, arith}
use Rattle.std.specs.Borrow.{Bor}
use Rattle.std.proofs.lemmas.List.{length-map, get_or-map}
use Rattle.sock_script.specs.Seen.{texts}
use Rattle.sock_script.proofs.ReservedPorts.{one_more, refused, all_read, PortsRead}
use Rattle.sock_script.proofs.form.ports_of.Goals as goal

-- the words' texts are as many
texts_within : (words : List (Bor (List ℕ))) (n : ℕ) → n < length words → n < length (texts words)
texts_within words n lt = omega (arith, length-map words (λ (w : Bor (List ℕ)). w.now))

pub returns-in_err-port-clause-none : goal.returns-in_err-port-clause-none
returns-in_err-port-clause-none c =
    rw c.from_residual.ensures
    (refused (texts c.args.words.now) c.loop-i.ports c.loop-i.least c.loop-i.i (texts_within _ _ c.loop-i-test.true) _
    (get_or-map (λ w. w.now) c.args.words.now c.loop-i.i _ [] c.loop-i-test.true)
    c.loop-i.invariant c.in_err-port.ensures.none)

pub loop-i-preserved : goal.loop-i-preserved
loop-i-preserved c =
    one_more (texts c.args.words.now) c.loop-i.ports c.loop-i.least c.loop-i.i (texts_within _ _ c.loop-i-test.true) _
    (get_or-map (λ w. w.now) c.args.words.now c.loop-i.i _ [] c.loop-i-test.true)
    c.loop-i.invariant c.in_ok-port.port (omega arith) c.in_ok-port.ensures.some

pub returns-clause-some : goal.returns-clause-some
returns-clause-some c =
    let all : c.loop-i.i ≡ length c.args.words.now = omega arith in
    all_read (texts c.args.words.now) c.loop-i.ports c.loop-i.least _
    (length-map c.args.words.now (λ w. w.now)) c.requires.some c.requires.few
    (subst (PortsRead (texts c.args.words.now) c.loop-i.ports c.loop-i.least) all c.loop-i.invariant)

use Rattle.std.proofs.Common.{Option, sym, subst}
use Rattle.chain_book.specs.declared.outcome.Hashed.{Hashed}
use Rattle.table_rule.specs.Calls.{layout_of}
use Rattle.table_rule.specs.Passes.{known}
use Rattle.established.specs.Comings.{Goes, IsOut}
use Rattle.established.proofs.Found.{slot_below}
use Rattle.established.proofs.coming.take_out.Goals as goal

pub unhash_slot-requires-clause-slot : goal.unhash_slot-requires-clause-slot
unhash_slot-requires-clause-slot c =
    let v = known c.args.pass.now in
    let h = subst (λ (o : Option Hashed). IsOut o v) c.in-Some.is c.requires.found in
    slot_below (layout_of c.args.chains.now).shape.slots c.in-Some.found.slot v.chain.walked h.0.listed c.requires.known.1

pub unhash_slot-requires-clause-card : goal.unhash_slot-requires-clause-card
unhash_slot-requires-clause-card c = (subst (λ (o : Option Hashed). IsOut o (known c.args.pass.now)) c.in-Some.is c.requires.found).0.words

pub unhash_slot-requires-clause-listed : goal.unhash_slot-requires-clause-listed
unhash_slot-requires-clause-listed c = (subst (λ (o : Option Hashed). IsOut o (known c.args.pass.now)) c.in-Some.is c.requires.found).0.listed

pub unhash_slot-requires-clause-own : goal.unhash_slot-requires-clause-own
unhash_slot-requires-clause-own c = (subst (λ (o : Option Hashed). IsOut o (known c.args.pass.now)) c.in-Some.is c.requires.found).1

pub returns-in-Some-clause-goes : goal.returns-in-Some-clause-goes
returns-in-Some-clause-goes c =
    subst (λ (o : Option Hashed). Goes (known c.args.pass.now) (known c.unhash_slot.new.pass) c.args.locked.now.bucket o) (sym c.in-Some.is) (record { chain = c.unhash_slot.ensures.gone; change = c.unhash_slot.ensures.change; rest = c.unhash_slot.ensures.rest; saw = c.unhash_slot.ensures.saw })

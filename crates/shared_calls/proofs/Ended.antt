-- That what a caller's calls changed has ended below what it knows of the clock.
use Rattle.std.proofs.Common.{◌≡◌, ℕ, ◌+◌, ◌<◌, ◌≤◌, List, [], ◌∷◌, ◌++◌, map, Option, None, Some, Result, Ok, Err, sym, subst, arith}
use Rattle.std.specs.Prelude.{IfOk, OnErr}
use Rattle.list_words.specs.Lists.{Each}
use Rattle.list_words.proofs.EachLemmas.{each_append, each_weaken}
use Rattle.bind_buckets.specs.Turned.{View}
use Rattle.chain_book.specs.declared.book.Change.{Change}
use Rattle.sock_ops.specs.Made.{AllLeave, Made}
use Rattle.sock_ops.specs.Sides.{Side, changes_by, change_of, side_of}
use Rattle.sock_ops.specs.declared.chains.table.ChainPass.{ChainPass}
use Rattle.sock_ops.specs.declared.chains.table.ChainTable.{ChainTable}
use Rattle.flat_list.specs.declared.command.Command.{Command}
use Rattle.flat_list.specs.declared.command.Reply.{Reply}
use Rattle.flat_list.specs.declared.header.Header.{Header}
use Rattle.race_record.specs.Deeds.{Deed, Tried, hashed, kept_out, no_slot, entered, inserted, added, left, reaped, changes_of, changes_tried, drawn_of, drawn_in_try}
use Rattle.section_machine.specs.LeftOff.{LeftOff}
use Rattle.section_machine.specs.Sections.{Did}
use Rattle.table_model.specs.Own.{Own}
use Rattle.table_rule.specs.Passes.{known}
use Rattle.table_rule.specs.Plays.{newcomer}
use Rattle.table_rule.specs.declared.view.View.{View as Known}

-- the end of a change is a number that was drawn

end_tried : (P : ℕ → Type 0) (t : Tried) → Each P (drawn_in_try t) → Each (λ (x : Change). P x.end) (changes_tried t)
end_tried P (hashed h None) drawn = (drawn.1.0, tt)
end_tried P (hashed h (Some u)) drawn = (drawn.1.0, (drawn.1.1.1.0, tt))
end_tried P (kept_out name) drawn = tt
end_tried P (no_slot number owned held) drawn = tt

end_drawn : (P : ℕ → Type 0) (d : Deed) → Each P (drawn_of d) → Each (λ (x : Change). P x.end) (changes_of d)
end_drawn P (entered port note) drawn = tt
end_drawn P (inserted wish tried) drawn = end_tried P tried drawn
end_drawn P (added card tried) drawn = end_tried P tried drawn
end_drawn P (left unhash) drawn = (drawn.1.0, tt)
end_drawn P (reaped card None) drawn = tt
end_drawn P (reaped card (Some unhash)) drawn = (drawn.1.0, tt)

-- each change of the side has ended below what its pass knows of the clock
abbrev pub AllEnded : Side → Type 0
AllEnded c = Each (λ (x : Change). x.end < c.view.seen) (changes_by c)

ended_deed : (deed : Deed) (c d : Side) → Made deed c d → AllEnded c → AllEnded d
ended_deed deed c d made were =
    let later = made.later in
    subst (λ (xs : List Change). Each (λ (x : Change). x.end < d.view.seen) xs) (sym made.changes)
    (each_append (λ (x : Change). x.end < d.view.seen) (changes_by c) (changes_of deed)
    (each_weaken (λ (x : Change). x.end < c.view.seen) (λ (x : Change). x.end < d.view.seen) (changes_by c) (λ x early. omega (arith, later, early)) were)
    (end_drawn (λ (n : ℕ). n < d.view.seen) deed (each_weaken (λ (n : ℕ). (c.view.seen ≤ n) × (n < d.view.seen)) (λ (n : ℕ). n < d.view.seen) (drawn_of deed) (λ n within. within.1) made.numbers)))

pub ended_deeds : (deeds : List Deed) (c d : Side) → AllLeave deeds c d → AllEnded c → AllEnded d
ended_deeds [] c d same were = subst AllEnded same were
ended_deeds (entered port note ∷ deeds) c d leaves were = ended_deeds deeds leaves.0 d leaves.2 (subst AllEnded leaves.1 were)
ended_deeds (inserted wish tried ∷ deeds) c d leaves were =
    ended_deeds deeds leaves.0 d leaves.2 (ended_deed (inserted wish tried) c leaves.0 leaves.1 were)
ended_deeds (added card tried ∷ deeds) c d leaves were =
    ended_deeds deeds leaves.0 d leaves.2 (ended_deed (added card tried) c leaves.0 leaves.1 were)
ended_deeds (left unhash ∷ deeds) c d leaves were =
    ended_deeds deeds leaves.0 d leaves.2 (ended_deed (left unhash) c leaves.0 leaves.1 were)
ended_deeds (reaped card unhash ∷ deeds) c d leaves were =
    ended_deeds deeds leaves.0 d leaves.2 (ended_deed (reaped card unhash) c leaves.0 leaves.1 were)

-- so it is after a command that was tried, whatever came of it
pub ended_after : {E : Type 0} (header : Header) (own : Own) (command : Command) (v w : View) (c d : Side) (next : Own) (r : Result Reply E) → IfOk r (Did header own command v w c d next)
    → OnErr r (LeftOff header own command v w c d next) → AllEnded c → AllEnded d
ended_after header own command v w c d next (Ok reply) did off were =
    ended_deeds did.deeds c d did.does.leaves were
ended_after header own command v w c d next (Err cause) did off were =
    ended_deeds off.deeds c d off.does.leaves were

-- a pass that was split off has changed nothing
pub none_ended : (t : ChainTable) (p : ChainPass) (v : Known) → known p.pass ≡ newcomer v → AllEnded (side_of t p)
none_ended t p v new =
    subst (λ (w : Known). Each (λ (x : Change). x.end < w.seen) (map change_of w.book.closed)) (sym new) tt

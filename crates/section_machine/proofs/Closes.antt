-- The TIME_WAIT that a closed socket leaves, and that nothing but a plan left off keeps one from its end.
use Rattle.std.proofs.Common.{◌≡◌, ℕ, ◌≤◌, true, List, [], ◌∷◌, ◌++◌, Err, refl, sym, subst, arith, ◌+◌, length, length-append}
use Rattle.list_words.proofs.EachLemmas.{each_push}
use Rattle.sock_card.specs.declared.owner.State.{State}
use Rattle.sock_card.specs.declared.owner.State.TheVariants as states
use Rattle.bind_buckets.specs.Turned.{View}
use Rattle.chain_book.specs.declared.shape.Shape.{Shape}
use Rattle.sock_ops.specs.Sides.{Side}
use Rattle.table_model.specs.declared.operation.OpEnd.{OpEnd}
use Rattle.table_model.specs.declared.operation.OpEnd.TheVariants as errors
use Rattle.table_model.specs.Asking.{Asking, ends}
use Rattle.table_model.specs.Own.{Mine}
use Rattle.table_model.specs.Operations as plans
use Rattle.table_model.specs.Operations.{gone, waiting, no_slot}
use Rattle.sock_ops.specs.Closes.{ClosedBy}
use Rattle.sock_ops.specs.Goes as ops
use Rattle.sock_ops.specs.Goes.{Went, IsUndecided}
use Rattle.section_machine.specs.Carried.{is_left_off, waits_by}
use Rattle.section_machine.specs.Waits.{AreBefore, AreInOrder, HasRoomFor}
use Rattle.section_machine.proofs.Asked.{asked_so, of_close, of_close_full, IsEnd, HasName, WaitsSince, WaitsFull}

-- its stamp is the moment of the end
pub since : (count : ℕ) (shape : Shape) (seed : ℕ) (m : Mine) (moment : ℕ) (v u : View) (c d : Side) (closed : plans.Closed) → Went count (plans.close shape seed m moment) v u c d (ends closed) → WaitsSince moment closed
since count shape seed m moment v u c d closed went =
    (asked_so (IsEnd (m.owner.state ≡ states.Full) m.owner.name) (HasName m.owner.name) (WaitsSince moment) count (plans.close shape seed m moment) (ends closed) went.deeds went.leads (of_close shape seed m moment)).left

-- there is room for it, where there is room for that of a full socket
room_by : (W : Type 0) (kept room : ℕ) (closed : plans.Closed) → WaitsFull W closed → (W → kept + 1 ≤ room) → HasRoomFor closed kept room
room_by W kept room gone is has = tt
room_by W kept room (waiting w) is has = has is
room_by W kept room (no_slot owned held) is has = tt

pub has_room : (count : ℕ) (shape : Shape) (seed : ℕ) (m : Mine) (moment : ℕ) (v u : View) (c d : Side) (kept room : ℕ) (closed : plans.Closed) → Went count (plans.close shape seed m moment) v u c d (ends closed)
    → (m.owner.state ≡ states.Full → kept + 1 ≤ room) → HasRoomFor closed kept room
has_room count shape seed m moment v u c d kept room closed went =
    let full : Type 0 = m.owner.state ≡ states.Full in
    room_by full kept room closed
    (asked_so (IsEnd full m.owner.name) (HasName m.owner.name) (WaitsFull full) count (plans.close shape seed m moment) (ends closed) went.deeds went.leads (of_close_full shape seed m moment)).left

-- of a full socket a question is left before it is closed
pub asks_full : (shape : Shape) (seed : ℕ) (m : Mine) (moment : ℕ) (state : State) → state ≡ states.Full → IsUndecided (plans.close_as shape seed state m moment) []
asks_full shape seed m moment state full =
    subst (λ (s : State). IsUndecided (plans.close_as shape seed s m moment) []) (sym full) tt

before_last : (moment : ℕ) (ws : List Mine) (w : Mine) → w.extra ≡ moment → AreBefore moment ws → AreBefore moment (ws ++ w ∷ [])
before_last moment ws w is before = each_push (λ (x : Mine). x.extra ≤ moment) ws w before (omega (arith, is))

order_last : (moment : ℕ) (ws : List Mine) (w : Mine) → w.extra ≡ moment → AreBefore moment ws → AreInOrder ws → AreInOrder (ws ++ w ∷ [])
order_last moment [] w is before order = (tt, tt)
order_last moment (x ∷ xs) w is before order =
    (each_push (λ (y : Mine). x.extra ≤ y.extra) xs w order.0 (let low = before.0 in omega (arith, is)), order_last moment xs w is before.1 order.1)

pub stays_before : (moment : ℕ) (ws : List Mine) (closed : plans.Closed) → WaitsSince moment closed → AreBefore moment ws → AreBefore moment (waits_by ws closed)
stays_before moment ws gone is before = before
stays_before moment ws (waiting w) is before = before_last moment ws w is before
stays_before moment ws (no_slot owned held) is before = before

pub stays_in_order : (moment : ℕ) (ws : List Mine) (closed : plans.Closed) → WaitsSince moment closed → AreBefore moment ws → AreInOrder ws → AreInOrder (waits_by ws closed)
stays_in_order moment ws gone is before order = order
stays_in_order moment ws (waiting w) is before order = order_last moment ws w is before order
stays_in_order moment ws (no_slot owned held) is before order = order

pub one_more : (ws : List Mine) (closed : plans.Closed) → length (waits_by ws closed) ≤ length ws + 1
one_more ws gone = omega arith
one_more ws (waiting w) = omega (arith, length-append ws (w ∷ []))
one_more ws (no_slot owned held) = omega arith

-- nothing else keeps one from its end that lets a socket go
pub unclosed_left : {X : Type 0} (did : X → plans.Closed) (count name : ℕ) (p : Asking plans.Closed) (v u : View) (c d : Side) (end : OpEnd) → ClosedBy did count name p v u c d (Err end) → ops.LeftOff count name p v u c d
unclosed_left did count name p v u c d (errors.LeftOff cause) h = h
unclosed_left did count name p v u c d (errors.InUse n) h = absurd h
unclosed_left did count name p v u c d errors.NoPort h = absurd h
unclosed_left did count name p v u c d (errors.Taken n) h = absurd h
unclosed_left did count name p v u c d errors.Inval h = absurd h
unclosed_left did count name p v u c d errors.IsConn h = absurd h
unclosed_left did count name p v u c d errors.GroupFull h = absurd h
unclosed_left did count name p v u c d errors.GroupsFull h = absurd h
unclosed_left did count name p v u c d (errors.Full owned held) h = absurd h

pub closed_off : {X : Type 0} (did : X → plans.Closed) (count name : ℕ) (p : Asking plans.Closed) (v u : View) (c d : Side) (end : OpEnd) → ClosedBy did count name p v u c d (Err end) → is_left_off end ≡ true
closed_off did count name p v u c d (errors.LeftOff cause) h = refl
closed_off did count name p v u c d (errors.InUse n) h = absurd h
closed_off did count name p v u c d errors.NoPort h = absurd h
closed_off did count name p v u c d (errors.Taken n) h = absurd h
closed_off did count name p v u c d errors.Inval h = absurd h
closed_off did count name p v u c d errors.IsConn h = absurd h
closed_off did count name p v u c d errors.GroupFull h = absurd h
closed_off did count name p v u c d errors.GroupsFull h = absurd h
closed_off did count name p v u c d (errors.Full owned held) h = absurd h

-- What hashing a connected socket came to.
use Rattle.std.proofs.Common.{◌≡◌, ℕ, true, Option, Some, None, Result, Ok, Err, [], ◌∷◌, refl, sym, ap, subst, ◌∙◌, append-nil, arith}
use Rattle.std.specs.Option.{option_map}
use Rattle.std.proofs.lemmas.Bool.{and_parts}
use Rattle.sock_card.specs.Conflict.{bind_key}
use Rattle.sock_card.specs.declared.card.Card.{Card}
use Rattle.sock_card.specs.TimeWait.{is_time_wait_kind}
use Rattle.sock_card.specs.Tuples.{tuple_of}
use Rattle.sock_card.proofs.Tuples.{PartsAgree, parts_agree}
use Rattle.chain_book.specs.declared.book.Change.{Change}
use Rattle.chain_book.specs.declared.outcome.Hashed.{Hashed}
use Rattle.chain_book.specs.Chains.{put}
use Rattle.chain_book.specs.Homes.{home}
use Rattle.chain_book.specs.Tuples.{waits_at, same_cards}
use Rattle.nulls_chain.specs.Changes.{IsPlaced}
use Rattle.nulls_chain.specs.declared.keeping.Place.{Place as Keeping}
use Rattle.table_rule.specs.declared.view.View.{View}
use Rattle.sock_slots.specs.declared.fresh.Full.{Full}
use Rattle.established.specs.declared.coming.Inserted.{Inserted}
use Rattle.established.specs.declared.coming.InsertEnd.{InsertEnd}
use Rattle.established.specs.declared.coming.InsertEnd.TheVariants as ends
use Rattle.race_record.specs.Deeds.{Wish, Tried, hashed, kept_out, no_slot, inserted}
use Rattle.race_record.specs.Goes.{Grants, IsHashOf, outcome_of, hashed_of}
use Rattle.table_model.specs.declared.operation.OpEnd.{OpEnd}
use Rattle.table_model.specs.declared.operation.OpEnd.TheVariants as errors
use Rattle.sock_ops.specs.Sides.{Side, changes_by}
use Rattle.sock_ops.specs.Made.{Does}
use Rattle.sock_ops.specs.Answers.{Inserts, IsInserted, DrawnBy, name_in}
use Rattle.established.specs.Comings.{FourDrawn}
use Rattle.sock_ops.specs.declared.hashing.Came.{Came}
use Rattle.sock_ops.specs.Hashing.{PutsIn, InsertsAs, DrawnAs, insert_error}

-- what was tried was granted
pub grants_of : (wish : Wish) (tried : Tried) (c d : Side) → Does (inserted wish tried ∷ []) c d → Grants wish tried
grants_of wish tried c d does = does.leaves.1.fits

-- a refused four-tuple changes no chain
pub kept_still : (wish : Wish) (name : ℕ) (c d : Side) → Does (inserted wish (kept_out name) ∷ []) c d → changes_by d ≡ changes_by c
kept_still wish name c d does =
    let left = does.leaves in sym (ap changes_by left.2) ∙ left.1.changes ∙ append-nil (changes_by c)

is_hash : (wish : Wish) (hash : Change) (old : Option Change) → Grants wish (hashed hash old) → IsHashOf wish.card hash
is_hash wish hash None g = g
is_hash wish hash (Some u) g = g.0

-- the chain in which it was hashed
bucket_of : (wish : Wish) (hash : Change) (old : Option Change) (c d : Side) → Does (inserted wish (hashed hash old) ∷ []) c d → hash.bucket ≡ home c.layout.shape c.layout.seed wish.card
bucket_of wish hash old c d does =
    let made = does.leaves.1 in
    let is = is_hash wish hash old made.fits in
    (made.homes.0 is.act).bucket ∙ ap (home c.layout.shape c.layout.seed) is.card_is

module _ (wish : Wish) (c d : Side) where
  put_by : (tried : Tried) (i : Inserted) → IsInserted wish.card tried (Ok i) → Does (inserted wish tried ∷ []) c d → IsPlaced i.place d.view.book → PutsIn wish (record { bucket = i.place.bucket; slot = i.place.slot }) i.replaced c d
  put_by (hashed hash old) i is does placed =
      let card : i.place.card ≡ wish.card = ap (λ (p : Keeping). p.card) is.0 in
      record {
        hash = hash;
        old = old;
        does = does;
        bucket = ap (λ (p : Keeping). p.bucket) is.0 ∙ bucket_of wish hash old c d does;
        slot = ap (λ (p : Keeping). p.slot) is.0;
        replaced_is = is.1;
        placed = subst (λ (k : Card). IsPlaced (record { bucket = i.place.bucket; slot = i.place.slot; card = k }) d.view.book) card placed;
      }
  put_by (kept_out name) i is does placed = absurd is
  put_by (no_slot number owned held) i is does placed = absurd is

  pub inserted_ok : (i : Inserted) → Inserts wish (Ok i) c d → IsPlaced i.place d.view.book → PutsIn wish (record { bucket = i.place.bucket; slot = i.place.slot }) i.replaced c d
  inserted_ok i k placed = put_by k.tried i k.answer k.does placed

  err_by : (tried : Tried) (end : InsertEnd) → IsInserted wish.card tried (Err end) → Does (inserted wish tried ∷ []) c d → InsertsAs wish c d (Err (insert_error end))
  err_by (hashed hash old) end is does = absurd is
  err_by (kept_out keeper) (ends.Taken name) is does = subst (λ n. Does (inserted wish (kept_out n) ∷ []) c d) (sym is) does
  err_by (kept_out keeper) (ends.Full slots) is does = absurd is
  err_by (no_slot number owned held) (ends.Taken name) is does = absurd is
  err_by (no_slot number owned held) (ends.Full slots) is does =
      subst (λ (f : Full). InsertsAs wish c d (Err (errors.Full f.owned f.held))) (sym is) (record { number = number; does = does })

  pub inserted_err : (end : InsertEnd) → Inserts wish (Err end) c d → InsertsAs wish c d (Err (insert_error end))
  inserted_err end k = err_by k.tried end k.answer k.does

pub drawn_err : (end : InsertEnd) (v w : View) → DrawnBy (Err end) v w → DrawnAs (Err (insert_error end)) v w
drawn_err (ends.Taken name) v w k = k
drawn_err (ends.Full slots) v w k = k

-- four numbers of the clock at most
pub drawn_four : (r : Result Came OpEnd) (v w : View) → DrawnAs r v w → FourDrawn v w
drawn_four (Ok came) v w k = k
drawn_four (Err (errors.Taken name)) v w k = λ more has. k more (omega arith)
drawn_four (Err (errors.Full owned held)) v w k = k
drawn_four (Err (errors.InUse name)) v w k = k
drawn_four (Err errors.NoPort) v w k = k
drawn_four (Err errors.Inval) v w k = k
drawn_four (Err errors.IsConn) v w k = k
drawn_four (Err errors.GroupFull) v w k = k
drawn_four (Err errors.GroupsFull) v w k = k
drawn_four (Err (errors.LeftOff cause)) v w k = k

-- the outcome by which a plan goes on
pub put_outcome : (hash : Change) (old : Option Change) → outcome_of (hashed hash old) ≡ put hash.slot (option_map hashed_of old)
put_outcome hash None = refl
put_outcome hash (Some u) = refl

-- what was replaced had the card's key
key_of : (card old : Card) → waits_at card old ≡ true → bind_key old.lport old.net ≡ bind_key card.lport card.net
key_of card old is =
    let same = (and_parts (same_cards card old) (is_time_wait_kind old.kind) is).0 in
    let parts : PartsAgree (tuple_of card) (tuple_of old) = parts_agree (tuple_of card) (tuple_of old) same in
    sym (ap (λ n. bind_key card.lport n) parts.net ∙ ap (λ p. bind_key p old.net) parts.lport)

pub keys_of : (wish : Wish) (hash : Change) (old : Option Change) → Grants wish (hashed hash old) → (x : Hashed) → option_map hashed_of old ≡ Some x → bind_key x.card.lport x.card.net ≡ bind_key wish.card.lport wish.card.net
keys_of wish hash None g x is = absurd (cc)
keys_of wish hash (Some u) g x is =
    let same : hashed_of u ≡ x = cc in
    sym (ap (λ (h : Hashed). bind_key h.card.lport h.card.net) same) ∙ key_of wish.card u.card g.1.tuple

-- and its name
pub names_of : (old : Option Change) → option_map name_in old ≡ option_map (λ (h : Hashed). h.card.name) (option_map hashed_of old)
names_of None = refl
names_of (Some u) = refl

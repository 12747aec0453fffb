-- What two words of a card say of its kind.
use Rattle.std.proofs.Common.{◌≡◌, ℕ, ◌%◌, ◌^◌, Bool, true, false, cond, ◌&&◌, ◌==◌, refl, sym}
use Rattle.std.proofs.lemmas.Bool.{true≢false}
use Rattle.sock_card.specs.declared.card.Card.{Card}
use Rattle.sock_card.specs.declared.card.Kind.TheVariants as kinds
use Rattle.sock_card.specs.declared.card.Packet.{Packet}
use Rattle.sock_card.specs.Rank.{rank, rank_as, tuple_rank}
use Rattle.sock_card.specs.Words.{word_rank, begun}

no_listener : (a b d : Bool) (c : Card) (p : Packet) → b ≡ false → rank_as (cond a kinds.TimeWait (cond b kinds.Listen (cond d kinds.Request kinds.Full))) c p ≡ tuple_rank c p
no_listener true b d c p e = refl
no_listener false true d c p e = absurd (true≢false e)
no_listener false false true c p e = refl
no_listener false false false c p e = refl

-- where the kind isn't a listener's, the four-tuple and the device decide
pub tuple_decides : (p : Packet) (ends ports : ℕ) → (ports % 2 ^ 4 == 3) ≡ false → word_rank p ends ports ≡ tuple_rank (begun ends ports) p
unfolding word_rank rank
tuple_decides p ends ports e = no_listener (ports % 2 ^ 4 == 2) (ports % 2 ^ 4 == 3) (ports % 2 ^ 4 == 4) (begun ends ports) p e

pub second_of_both : (x y r : Bool) → x ≡ true → r ≡ y → r ≡ (x && y)
second_of_both true y r e q = q
second_of_both false y r e q = absurd (true≢false (sym e))

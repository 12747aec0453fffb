-- What a caller learns of a draw.
use Rattle.std.proofs.Common.{◌≡◌, ℕ, ◌<◌, ◌≤◌, ap, sym, subst, arith}
use Rattle.list_words.specs.Lists.{Each}
use Rattle.list_words.proofs.EachLemmas.{each_weaken}
use Rattle.list_words.proofs.PairsLemmas.{pairs_push}
use Rattle.tickets.specs.Views.{drawing}
use Rattle.tickets.specs.Draws.{Ascend, Drew}
use Rattle.tickets.specs.Plays.{Sat, Took}
use Rattle.tickets.specs.declared.view.TicketView.{TicketView}

-- its tickets are below what it has seen
abbrev pub Own : TicketView → Type 0
Own v = Each (λ k. k < v.seen) v.drawn

-- and below each greater bound
own_below : (v : TicketView) (x : ℕ) → v.seen ≤ x → Own v → Each (λ k. k < x) v.drawn
own_below v x later own = each_weaken (λ k. k < v.seen) (λ k. k < x) v.drawn (λ k h. omega arith) own

-- a number below the limit is a ticket
pub drew : (m n : Sat) (r : ℕ) → Took m r n → Own m.0 → r < m.0.limit → Drew m.0 n.0 r
drew m n r t own inside =
    let is : n.0 ≡ drawing m.0 r = ap (λ (x : Sat). x.0) (t.inside inside) in
    let above = own_below m.0 r t.later own in
    record {
      inside = inside;
      later = t.later;
      above = above;
      rising = λ p. subst (λ (v : TicketView). Ascend v.drawn) (sym is) (pairs_push (λ x y. x < y) m.0.drawn r p above);
      is = is;
    }

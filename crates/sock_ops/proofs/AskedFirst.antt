-- What a turn asked first, and the view as that left it.
use Rattle.std.proofs.Common.{◌≡◌, ℕ, ◌+◌, ◌%◌, ◌≤◌, Bool, List, [], ◌∷◌, ◌++◌, Result, Ok, Err, None, refl, sym, ap, subst, ◌∙◌, append_assoc, append-nil, length, false, arith}
use Rattle.std.proofs.lemmas.List.{length-append}
use Rattle.sock_card.specs.declared.owner.Owner.{Owner}
use Rattle.sock_card.specs.Conflict.{bind_key, is_time_wait}
use Rattle.turn_table.specs.declared.note.Placed.{Placed}
use Rattle.turn_table.specs.Journals.{number_of}
use Rattle.turn_table.specs.Passes as words
use Rattle.turn_table.specs.Passes.{known}
use Rattle.bind_buckets.specs.declared.request.Request.TheVariants as requests
use Rattle.bind_buckets.specs.declared.request.Answer.TheVariants as answers
use Rattle.bind_buckets.specs.declared.request.Entry.{Entry}
use Rattle.bind_buckets.specs.Bucket.{entries_of}
use Rattle.bind_buckets.specs.Turned.{View, Hash, Pass, Out, Gave, made}
use Rattle.port_search.proofs.TurnSearch.{gave_both}
use Rattle.port_search.specs.Search.{at_port}
use Rattle.port_search.specs.Turned.{BindsAt, BindsIn}
use Rattle.sock_ops.specs.Sides.{Side}
use Rattle.table_model.specs.declared.operation.OpEnd.{OpEnd}
use Rattle.table_model.specs.Asking.{Asking}
use Rattle.table_model.specs.Own.{Mine}
use Rattle.sock_ops.specs.Goes.{CarriedOut, AreAsked, AskedAll, HoldsAfter}
use Rattle.sock_ops.specs.Listens.{TellsAs}
use Rattle.sock_ops.specs.Stands.{IsAway, IsThere, Knows}
use Rattle.sock_ops.proofs.Goes.{all_one, carried_both, each_parts}
use Rattle.sock_ops.proofs.BindGoes.{all_quiet, went_so_far}
use Rattle.sock_ops.proofs.ConnectGoes.{all_none}
use Rattle.sock_ops.proofs.Knows.{Grows, all_pass, grows, knows_on}

-- some questions, and then others
record Parts (place : ℕ) (es fs : List Entry) (xs : List (Placed Entry)) : Type 0 where
  front : List (Placed Entry)
  back : List (Placed Entry)
  split : xs ≡ front ++ back
  first : AreAsked place es front
  last : AreAsked place fs back

parts : (place : ℕ) (es fs : List Entry) (xs : List (Placed Entry)) → AreAsked place (es ++ fs) xs → Parts place es fs xs
parts place [] fs xs are = record { front = []; back = xs; split = refl; first = tt; last = are }
parts place (e ∷ es) fs [] are = absurd are
parts place (e ∷ es) fs (x ∷ xs) are =
    let more = parts place es fs xs are.1 in
    record { front = x ∷ more.front; back = more.back; split = ap (λ ys. x ∷ ys) more.split; first = (are.0, more.first); last = more.last }

-- a view, as a pass left it that gave these entries
abbrev left_by : View → List (Placed Entry) → View
left_by v xs = record v { mine = v.mine ++ xs; draws = v.draws + length xs }

module _ (v w : View) (xs ys : List (Placed Entry)) (g : Gave v w (xs ++ ys)) where
  gave_front : Gave v (left_by v xs) xs
  gave_front =
      record {
        mine = refl;
        parts = refl;
        caller = refl;
        splits = refl;
        later = omega arith;
        draws = refl;
        callers = (each_parts (λ (x : Placed Entry). x.note.caller ≡ v.caller) xs ys g.callers).0;
        fresh = (each_parts (λ (x : Placed Entry). v.seen ≤ number_of x) xs ys g.fresh).0;
      }

  gave_back : Gave (left_by v xs) w ys
  gave_back =
      record {
        mine = g.mine ∙ sym (append_assoc v.mine xs ys);
        parts = g.parts;
        caller = g.caller;
        splits = g.splits;
        later = g.later;
        draws = let a = g.draws in omega (arith, length-append xs ys);
        callers = (each_parts (λ (x : Placed Entry). x.note.caller ≡ v.caller) xs ys g.callers).1;
        fresh = (each_parts (λ (x : Placed Entry). v.seen ≤ number_of x) xs ys g.fresh).1;
      }

-- what holds where the others alone were asked holds after the first ones
pub holds_after : (place : ℕ) (es fs : List Entry) (v w : View) (P : View → Type 0) → AskedAll place (es ++ fs) v w → ((u : View) → AskedAll place fs u w → P u) → HoldsAfter place es v P
holds_after place es fs v w P all then_ =
    let p = parts place es fs all.xs all.asked in
    let g : Gave v w (p.front ++ p.back) = subst (λ (xs : List (Placed Entry)). Gave v w xs) p.split all.gave in
    let u = left_by v p.front in
    record {
      then_ = u;
      asked = record { xs = p.front; asked = p.first; gave = gave_front v w p.front p.back g };
      holds = then_ u (record { xs = p.back; asked = p.last; gave = gave_back v w p.front p.back g });
    }

-- one question more was asked after the first ones, and then those of a bucket that was given back
pub given_back : (at place : ℕ) (es : List Entry) (e : Entry) (fs : List Entry) (v w : View) (made_ : List Entry) → at ≡ place → made_ ≡ es ++ e ∷ [] → AskedAll at (made_ ++ fs) v w → AskedAll place (es ++ e ∷ fs) v w
given_back at place es e fs v w made_ same told all =
    subst (λ i. AskedAll i (es ++ e ∷ fs) v w) same
    (subst (λ (gs : List Entry). AskedAll at gs v w) (ap (λ (gs : List Entry). gs ++ fs) told ∙ append_assoc es (e ∷ []) fs) all)

-- Where nothing was asked first

pub carried_at_once : {X R : Type 0} (did : X → R) (not_done : OpEnd → R) (count name place : ℕ) (p : Asking R) (v w : View) (c d : Side) (r : Result X OpEnd)
    → HoldsAfter place [] v (λ u. CarriedOut did not_done count name p u w c d r) → CarriedOut did not_done count name p v w c d r
carried_at_once did not_done count name place p v w c d r h =
    carried_both did not_done count name p p v h.then_ w c c d (went_so_far count p v h.then_ c (all_none place v h.then_ h.asked)) refl r h.holds

asked_past : (place at : ℕ) (es : List Entry) (v u w : View) → AskedAll at [] v u → AskedAll place es u w → AskedAll place es v w
asked_past place at es v u w none all =
    record { xs = all.xs; asked = all.asked; gave = gave_both v u w [] all.xs (all_none at v u none) all.gave }

pub tells_at_once : (place at : ℕ) (a : Owner) (took : Bool) (v w : View) (r : Result Mine OpEnd) → HoldsAfter at [] v (λ u. TellsAs place a took u w r) → TellsAs place a took v w r
tells_at_once place at a took v w (Ok m) h =
    let t = h.holds in
    record { group = t.group; slot = t.slot; owner = t.owner; asked = asked_past place at _ v h.then_ w h.asked t.asked }
tells_at_once place at a took v w (Err end) h =
    let t = h.holds in
    record { first = t.first; listens = t.listens; asked = asked_past place at _ v h.then_ w h.asked t.asked }

-- Where a search bound an owner in that turn

-- the search as it ended, and what holds then
pub record Found (count : ℕ) (a : Owner) (ports : List ℕ) (v : View) (port : ℕ) (P : View → Type 0) : Type 0 where
  pub then_ : View
  pub at : BindsAt count a ports v then_ port
  pub holds : P then_

module _ (t : Hash) (a : Owner) (ports : List ℕ) (v : View) (q : Pass) (port : ℕ) (turn : Out) (b : BindsIn t a ports v q port turn) where
  pub found_first : (P : View → Type 0) → HoldsAfter (bind_key port a.net % words.places t) (entries_of (made q turn)) b.begun P → Found (words.places t) a ports v port P
  found_first P h =
      let place = bind_key port a.net % words.places t in
      let e : Entry = record { request = requests.BindAuto (at_port a port); answer = answers.Done } in
      let one = all_one place e b.begun h.then_ (subst (λ (es : List Entry). AskedAll place es b.begun h.then_) b.taken.made_is h.asked) in
      record {
        then_ = h.then_;
        at = record {
          before = b.before;
          after = b.after;
          split = b.split;
          refused = b.refused;
          last = one.x;
          refusals = b.refusals;
          taken = one.is;
          gave = gave_both v b.begun h.then_ b.refused (one.x ∷ []) b.gave one.gave;
        };
        holds = h.holds;
      }

  -- the owner is there
  pub found_there : is_time_wait a.state ≡ false → IsAway a.name v → IsThere turn (at_port a port)
  found_there awake away =
      let place = bind_key port a.net % words.places t in
      let c = b.taken.within in
      let begun = knows_on a.name place None v b.begun b.refused (away place) (grows v b.begun b.refused b.gave) (all_pass place b.refused (all_quiet (words.places t) a b.before b.refused awake b.refusals)) in
      let same : Grows b.begun (known q) [] = record { mine = c.mine ∙ sym (append-nil b.begun.mine); caller = c.caller; callers = tt } in
      let now : Knows a.name None turn.place (known q) = subst (λ i. Knows a.name None i (known q)) (sym b.taken.place) (knows_on a.name place None b.begun (known q) [] begun same tt) in
      b.taken.first now.mine now.it now.own awake now.keeps now.told_is

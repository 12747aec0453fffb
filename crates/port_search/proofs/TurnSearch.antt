-- How a search through shared buckets goes on, and what it comes to where nobody shares them.
use Rattle.std.proofs.Common.{◌≡◌, ℕ, ◌+◌, ◌%◌, ◌≤◌, cond, List, [], ◌∷◌, ◌++◌, length, map, Some, None, refl, sym, ap, subst, ◌∙◌, arith, append_assoc, append-nil, length-append}
use Rattle.sock_card.specs.declared.owner.Owner.{Owner}
use Rattle.sock_card.specs.Conflict.{bind_key}
use Rattle.list_words.proofs.EachLemmas.{each_append, each_weaken}
use Rattle.turn_table.specs.declared.note.Placed.{Placed}
use Rattle.turn_table.specs.Journals.{placed, number_of}
use Rattle.turn_table.specs.Passes as words
use Rattle.turn_table.specs.Passes.{known}
use Rattle.bind_buckets.specs.declared.request.Request.{Request}
use Rattle.bind_buckets.specs.declared.request.Request.TheVariants as requests
use Rattle.bind_buckets.specs.declared.request.Answer.{Answer}
use Rattle.bind_buckets.specs.declared.request.Answer.TheVariants as answers
use Rattle.bind_buckets.specs.declared.request.Entry.{Entry}
use Rattle.bind_buckets.specs.declared.request.InUse.{InUse}
use Rattle.bind_buckets.specs.Notes.{Note}
use Rattle.bind_buckets.specs.Journal.{Standing}
use Rattle.bind_buckets.specs.BindHash.{asked_at, answer_at}
use Rattle.bind_buckets.specs.Bucket.{entries_of}
use Rattle.bind_buckets.specs.Turned.{View, Hash, Pass, Out, Within, Gave, OneAsked, IsAlone, AreLawful, KnowsAll, hash_of, made}
use Rattle.bind_buckets.proofs.HashSteps.{answered_by, asked_by, lawful_front}
use Rattle.port_search.specs.declared.ends.SearchEnd.{SearchEnd}
use Rattle.port_search.specs.declared.ends.SearchEnd.TheVariants as ends
use Rattle.port_search.specs.Search.{Found, FindsNone, IsNotFull, is_done, at_port, searched}
use Rattle.port_search.specs.Turned.{IsRefusal, AllRefuse, RefusedAt, TakenIn, IsLeavingOff, BindsAt, BindsIn, BindsNowhere, BindsNotYet}

-- a pass that gave nothing
pub gave_none : (v : View) → Gave v v []
gave_none v = record { mine = sym (append-nil v.mine); parts = refl; caller = refl; splits = refl; later = omega arith; draws = omega arith; callers = tt; fresh = tt }

-- it gave some entries, and then others
pub gave_both : (u v w : View) (xs ys : List (Placed Entry)) → Gave u v xs → Gave v w ys → Gave u w (xs ++ ys)
gave_both u v w xs ys g h = record {
  mine = h.mine ∙ ap (λ (ms : List (Placed Entry)). ms ++ ys) g.mine ∙ append_assoc u.mine xs ys;
  parts = h.parts ∙ g.parts;
  caller = h.caller ∙ g.caller;
  splits = h.splits ∙ g.splits;
  later = let a = g.later in let b = h.later in omega arith;
  draws = let a = g.draws in let b = h.draws in omega (arith, length-append xs ys);
  callers = each_append (λ (x : Placed Entry). x.note.caller ≡ u.caller) xs ys g.callers
      (each_weaken (λ (x : Placed Entry). x.note.caller ≡ v.caller) (λ (x : Placed Entry). x.note.caller ≡ u.caller) ys (λ x e. e ∙ g.caller) h.callers);
  fresh = each_append (λ (x : Placed Entry). u.seen ≤ number_of x) xs ys g.fresh
      (each_weaken (λ (x : Placed Entry). v.seen ≤ number_of x) (λ (x : Placed Entry). u.seen ≤ number_of x) ys (λ x e. let a = g.later in omega arith) h.fresh);
}

pub still_alone : (v w : View) (xs : List (Placed Entry)) → Gave v w xs → IsAlone v → IsAlone w
still_alone v w xs g alone = (g.caller ∙ alone.0, g.splits ∙ alone.1)

pub one_asked : (place at : ℕ) (request : Request) (answer : Answer) (v w : View) (ms : List Note) → at ≡ place → entries_of ms ≡ record { request = request; answer = answer } ∷ [] → Gave v w (map (placed at) ms) → OneAsked place request answer v w
one_asked place at request answer v w [] same e g = absurd (cc)
one_asked place at request answer v w (m ∷ []) same e g =
    let is : m.entry ≡ record { request = request; answer = answer } = cc in
    record { entry = placed at m; asked = record { place_is = same; entry = is }; gave = g }
one_asked place at request answer v w (m ∷ n ∷ ms) same e g = absurd (cc)

pub refused_by : (count port : ℕ) (a : Owner) (v w : View) (end : InUse) → OneAsked (bind_key port a.net % count) (requests.BindAuto (at_port a port)) (answers.InUse end.0) v w → RefusedAt count a port v w
refused_by count port a v w end o = record { entry = o.entry; refusal = record { name = end.0; asked = o.asked }; gave = o.gave }

-- all ports before those that are left were refused
pub record Searching (count : ℕ) (a : Owner) (v w : View) (ports rest : List ℕ) : Type 0 where
  pub before : List ℕ
  pub split : ports ≡ before ++ rest
  pub refused : List (Placed Entry)
  pub refusals : AllRefuse count a before refused
  pub gave : Gave v w refused

pub begins : (count : ℕ) (a : Owner) (v : View) (ports rest : List ℕ) → rest ≡ ports → Searching count a v v ports rest
begins count a v ports rest all = record { before = []; split = sym all; refused = []; refusals = tt; gave = gave_none v }

refuse_more : (count : ℕ) (a : Owner) (ports : List ℕ) (xs : List (Placed Entry)) (port : ℕ) (x : Placed Entry) → AllRefuse count a ports xs → IsRefusal count a port x → AllRefuse count a (ports ++ port ∷ []) (xs ++ x ∷ [])
refuse_more count a [] [] port x all one = (one, tt)
refuse_more count a [] (y ∷ ys) port x all one = absurd all
refuse_more count a (p ∷ ports) [] port x all one = absurd all
refuse_more count a (p ∷ ports) (y ∷ ys) port x all one = (all.0, refuse_more count a ports ys port x all.1 one)

module _ (count : ℕ) (a : Owner) (v w : View) (ports rest : List ℕ) (s : Searching count a v w ports rest) where
  pub passed : (u : View) (port : ℕ) (left : List ℕ) → rest ≡ port ∷ left → RefusedAt count a port w u → Searching count a v u ports left
  passed u port left here r = record {
    before = s.before ++ port ∷ [];
    split = s.split ∙ ap (λ xs. s.before ++ xs) here ∙ sym (append_assoc s.before (port ∷ []) left);
    refused = s.refused ++ r.entry ∷ [];
    refusals = refuse_more count a s.before s.refused port r.entry s.refusals r.refusal;
    gave = gave_both v w u s.refused (r.entry ∷ []) s.gave r.gave;
  }

  pub nowhere : rest ≡ [] → BindsNowhere count a ports v w
  nowhere none =
      let all : s.before ≡ ports = sym (s.split ∙ ap (λ xs. s.before ++ xs) none ∙ append-nil s.before) in
      record { refused = s.refused; refusals = subst (λ ps. AllRefuse count a ps s.refused) all s.refusals; gave = s.gave }

  pub not_yet : (u : View) (port : ℕ) (left : List ℕ) → rest ≡ port ∷ left → Gave w u [] → BindsNotYet count a ports v u
  not_yet u port left here g = record {
    before = s.before;
    port = port;
    after = left;
    split = s.split ∙ ap (λ xs. s.before ++ xs) here;
    refused = s.refused;
    refusals = s.refusals;
    gave = subst (Gave v u) (append-nil s.refused) (gave_both v w u s.refused [] s.gave g);
  }

-- the bucket of the port that was found is out
pub found_in : (t : Hash) (a : Owner) (v w : View) (ports rest : List ℕ) → Searching (words.places t) a v w ports rest
    → (q : Pass) (port : ℕ) (left : List ℕ) (turn : Out) → rest ≡ port ∷ left → TakenIn t a port w q turn → BindsIn t a ports v q port turn
found_in t a v w ports rest s q port left turn here taken = record {
  before = s.before;
  after = left;
  split = s.split ∙ ap (λ xs. s.before ++ xs) here;
  refused = s.refused;
  refusals = s.refusals;
  begun = w;
  gave = s.gave;
  taken = taken;
}

-- and it is given back
pub found : (t : Hash) (a : Owner) (ports : List ℕ) (v w : View) (q : Pass) (port : ℕ) (turn : Out) → BindsIn t a ports v q port turn
    → ((u : View) → Within u (known q) → Gave u w (map (placed turn.place) (made q turn))) → BindsAt (words.places t) a ports v w port
found t a ports v w q port turn b gives =
    let o = one_asked (bind_key port a.net % words.places t) turn.place (requests.BindAuto (at_port a port)) answers.Done b.begun w (made q turn) b.taken.place b.taken.made_is (gives b.begun b.taken.within) in
    record {
      before = b.before;
      after = b.after;
      split = b.split;
      refused = b.refused;
      last = o.entry;
      refusals = b.refusals;
      taken = o.asked;
      gave = gave_both v b.begun w b.refused (o.entry ∷ []) b.gave o.gave;
    }

-- where nobody shares the buckets
finds_by : (hash new : List Standing) (a : Owner) (port : ℕ) (rest : List ℕ) (answer : Answer) → answer_at hash (bind_key port a.net) (requests.BindAuto (at_port a port)) ≡ answer → asked_at hash (bind_key port a.net) (requests.BindAuto (at_port a port)) ≡ new
    → searched hash a (port ∷ rest) ≡ cond (is_done answer) (record { hash = new; port = Some port }) (searched new a rest)
finds_by hash new a port rest answer told after =
    let asks = asked_at hash (bind_key port a.net) (requests.BindAuto (at_port a port)) in
    ap (λ x. cond (is_done x) (let f : Found = record { hash = asks; port = Some port } in f) (searched asks a rest)) told
    ∙ ap (λ h. cond (is_done answer) (let f : Found = record { hash = h; port = Some port } in f) (searched h a rest)) after

module _ (count : ℕ) (some : 1 ≤ count) (a : Owner) where
  refused_alone : (given : List (Placed Entry)) (ports rest : List ℕ) (xs : List (Placed Entry)) → AreLawful count (given ++ xs) → AllRefuse count a ports xs → searched (hash_of count given) a (ports ++ rest) ≡ searched (hash_of count (given ++ xs)) a rest
  refused_alone given [] rest [] lawful all = ap (λ g. searched (hash_of count g) a rest) (sym (append-nil given))
  refused_alone given [] rest (x ∷ xs) lawful all = absurd all
  refused_alone given (port ∷ ports) rest [] lawful all = absurd all
  refused_alone given (port ∷ ports) rest (x ∷ xs) lawful all =
      let request = requests.BindAuto (at_port a port) in
      let answer = answers.InUse all.0.name in
      let whole : AreLawful count ((given ++ x ∷ []) ++ xs) = subst (AreLawful count) (sym (append_assoc given (x ∷ []) xs)) lawful in
      let one : AreLawful count (given ++ x ∷ []) = lawful_front count (given ++ x ∷ []) xs whole in
      finds_by (hash_of count given) (hash_of count (given ++ x ∷ [])) a port (ports ++ rest) answer
      (answered_by count (bind_key port a.net) request answer given x some all.0.asked one) (asked_by count (bind_key port a.net) request answer given x some all.0.asked one)
      ∙ refused_alone (given ++ x ∷ []) ports rest xs whole all.1
      ∙ ap (λ g. searched (hash_of count g) a rest) (append_assoc given (x ∷ []) xs)

  module _ (ports : List ℕ) (v w : View) (alone : IsAlone v) (knows : KnowsAll count w) where
    pub found_alone : (port : ℕ) → BindsAt count a ports v w port → searched (hash_of count v.mine) a ports ≡ record { hash = hash_of count w.mine; port = Some port }
    found_alone port b =
        let request = requests.BindAuto (at_port a port) in
        let whole : AreLawful count ((v.mine ++ b.refused) ++ b.last ∷ []) =
        subst (AreLawful count) (b.gave.mine ∙ sym (append_assoc v.mine b.refused (b.last ∷ []))) (knows (still_alone v w (b.refused ++ b.last ∷ []) b.gave alone)) in
        let front : AreLawful count (v.mine ++ b.refused) = lawful_front count (v.mine ++ b.refused) (b.last ∷ []) whole in
        ap (searched (hash_of count v.mine) a) b.split
        ∙ refused_alone v.mine b.before (port ∷ b.after) b.refused front b.refusals
        ∙ finds_by (hash_of count (v.mine ++ b.refused)) (hash_of count ((v.mine ++ b.refused) ++ b.last ∷ [])) a port b.after answers.Done
        (answered_by count (bind_key port a.net) request answers.Done (v.mine ++ b.refused) b.last some b.taken whole) (asked_by count (bind_key port a.net) request answers.Done (v.mine ++ b.refused) b.last some b.taken whole)
        ∙ ap (λ g. let f : Found = record { hash = hash_of count g; port = Some port } in f) (append_assoc v.mine b.refused (b.last ∷ []) ∙ sym b.gave.mine)

    pub none_alone : BindsNowhere count a ports v w → FindsNone (hash_of count v.mine) a ports (hash_of count w.mine)
    none_alone b =
        let whole : AreLawful count (v.mine ++ b.refused) = subst (AreLawful count) b.gave.mine (knows (still_alone v w b.refused b.gave alone)) in
        ap (searched (hash_of count v.mine) a) (sym (append-nil ports))
        ∙ refused_alone v.mine ports [] b.refused whole b.refusals
        ∙ ap (λ g. let f : Found = record { hash = hash_of count g; port = None } in f) (sym b.gave.mine)

-- a turn in which nothing was asked
pub nothing_made : (at : ℕ) (v w : View) (ms : List Note) → ms ≡ [] → Gave v w (map (placed at) ms) → Gave v w []
nothing_made at v w [] e g = g
nothing_made at v w (m ∷ ms) e g = absurd (cc)

-- a search that is left off before a port had slots and ports enough
pub leaves_ports : {X : Type 0} (end : SearchEnd) → IsLeavingOff end → end ≡ ends.NoPort → X
leaves_ports ends.NoPort off same = absurd off
leaves_ports (ends.Full owned held) off same = absurd off
leaves_ports ends.Memory off same = absurd (cc)
leaves_ports ends.Busy off same = absurd (cc)

pub leaves_slots : (end : SearchEnd) → IsLeavingOff end → IsNotFull end
leaves_slots ends.NoPort off = tt
leaves_slots (ends.Full owned held) off = absurd off
leaves_slots ends.Memory off = tt
leaves_slots ends.Busy off = tt

-- the numbers that may be drawn are enough for the ports that are left
pub enough : (most d e : ℕ) (rest left : List ℕ) (port : ℕ) → rest ≡ port ∷ left → e ≡ d + 1 → d + length rest ≤ most → e + length left ≤ most
enough most d e rest left port here one few = let long : length rest ≡ length left + 1 = ap length here ∙ omega arith in omega arith

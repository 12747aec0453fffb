-- Each change of the list of sockets leaves the groups those of the listeners that share an end.
use Rattle.std.proofs.Common.{◌≡◌, ◌≢◌, ℕ, ◌+◌, ◌/◌, ◌≤◌, ◌==◌, Bool, true, false, not, ◌&&◌, ◌||◌, cond, if◌then◌else◌, nat_lt, List, [], ◌∷◌, ◌++◌, length, map, filter, find, count_by, Some, None, arith, refl, sym, ap, subst, ◌∙◌, ◌⊎◌, inl, inr, length-append}
use Rattle.std.specs.List.{list_any}
use Rattle.std.proofs.lemmas.Bool.{cases_Bool, both_ways, cond_both, and_parts, eqb-true, eqb-false, eq-eqb, ne_eqb, ltb-true, lt-ltb}
use Rattle.std.proofs.lemmas.Bool.Decides.{nat_tests}
use Rattle.list_words.specs.Lists.{Each, Pairs}
use Rattle.list_words.proofs.EachLemmas.{each_weaken, each_both, each_map, each_push, each_filter, each_of_all, each_unless_any, each_found, found_passes, none_any}
use Rattle.list_words.proofs.PairsLemmas.{pairs_map, pairs_weaken, pairs_both, pairs_of_each, pairs_push, pairs_filter, pairs_found}
use Rattle.list_words.proofs.Truths.{both_true}
use Rattle.sock_card.specs.declared.owner.Owner.{Owner}
use Rattle.sock_card.specs.Limits.{group_room}
use Rattle.sock_card.specs.Conflict.{is_listening, owner_key, same_port}
use Rattle.sock_card.proofs.Agreement.{same_either_way}
use Rattle.flat_list.specs.declared.socket.Socket.{Socket}
use Rattle.flat_list.specs.Groups.{Group, has_member, has_members, bucket_of, is_used, is_full_group, join_group, leave_group, left_by, leave, with_group}
use Rattle.flat_list.specs.Sockets.{has_name, put, replaced, without, is_mate}
use Rattle.flat_list.specs.Sound.{NamesDiffer, is_sharing, IsInOneGroup, are_together, GroupsAreOfMates, IsGroupOf, NumbersDiffer, AreGroupsOf}
use Rattle.flat_list.proofs.Counted.{none_counted, none_passing, one_counted, count_map, count_push, count_filter, any_map, any_same, any_push, any_filter, any_gives, each_filter_kept, each_swap}
use Rattle.flat_list.proofs.Memberships.{each_among, joined_other, joined_itself, left_others, left_itself, left_differ, each_left, left_length}
use Rattle.flat_list.proofs.Puts.{each_put, pairs_put}

abbrev InBucket : ℕ → Group → Socket → Type 0
InBucket buckets g s = has_member s.owner.name g ≡ true → bucket_of (owner_key s.owner) buckets ≡ g.number / 8

abbrev IsOut : ℕ → Group → Type 0
IsOut name g = has_member name g ≡ false

-- how often a socket is counted, by whether it listens and shares its end
none_of : (b : Bool) (n : ℕ) → b ≡ false → n ≡ (if b then 1 else 0) → n ≡ 0
none_of false n e h = h
none_of true n e h = absurd (both_ways true e refl)

one_of : (b : Bool) (n : ℕ) → b ≡ true → n ≡ (if b then 1 else 0) → n ≡ 1
one_of true n e h = h
one_of false n e h = absurd (both_ways false refl e)

counts_none : (b : Bool) (n : ℕ) → b ≡ false → n ≡ 0 → n ≡ (if b then 1 else 0)
counts_none false n e h = h
counts_none true n e h = absurd (both_ways true e refl)

counts_one : (b : Bool) (n : ℕ) → b ≡ true → n ≡ 1 → n ≡ (if b then 1 else 0)
counts_one true n e h = h
counts_one false n e h = absurd (both_ways false refl e)

pub count_quiet : (groups : List Group) (s : Socket) → is_sharing s ≡ false → IsInOneGroup groups s → count_by (has_member s.owner.name) groups ≡ 0
count_quiet groups s quiet one = none_of (is_sharing s) (count_by (has_member s.owner.name) groups) quiet one

count_sharing : (groups : List Group) (s : Socket) → is_sharing s ≡ true → IsInOneGroup groups s → count_by (has_member s.owner.name) groups ≡ 1
count_sharing groups s shares one = one_of (is_sharing s) (count_by (has_member s.owner.name) groups) shares one

-- a socket that shares no end is in no group
abbrev QuietOut : Group → Socket → Type 0
QuietOut g x = is_sharing x ≡ false → IsOut x.owner.name g

quiet_if : (groups : List Group) (x : Socket) → (is_sharing x ≡ true) ⊎ (is_sharing x ≡ false) → IsInOneGroup groups x → Each (λ g. QuietOut g x) groups
quiet_if groups x (inl e) one = each_of_all (λ g. QuietOut g x) groups (λ g q. absurd (both_ways (is_sharing x) q e))
quiet_if groups x (inr e) one =
    each_weaken (IsOut x.owner.name) (λ g. QuietOut g x) groups (λ g p q. p) (none_counted (has_member x.owner.name) groups (count_quiet groups x e one))

quiet_out : (groups : List Group) (sockets : List Socket) → Each (IsInOneGroup groups) sockets → Each (λ g. Each (QuietOut g) sockets) groups
quiet_out groups sockets one =
    each_swap (λ x g. QuietOut g x) sockets groups
    (each_weaken (IsInOneGroup groups) (λ x. Each (λ g. QuietOut g x) groups) sockets (λ x h. quiet_if groups x (cases_Bool (is_sharing x)) h) one)

-- mates: two listeners that share one end
abbrev alike : Owner → Owner → Bool
alike a b = same_port a b && (a.dev == b.dev) && (a.uid == b.uid) && (a.addr == b.addr)

record Shares (s : Socket) : Type 0 where
  listens : is_listening s.owner.state ≡ true
  reuses : s.owner.reuseport ≡ true

shares : (s : Socket) → is_sharing s ≡ true → Shares s
shares s h = let parts = and_parts (is_listening s.owner.state) s.owner.reuseport h in record { listens = parts.0; reuses = parts.1 }

mate_if_alike : (a : Owner) (s : Socket) → a.reuseport ≡ true → Shares s → is_mate a s ≡ alike a s.owner
mate_if_alike a s reuses is = rw (is.listens, reuses, is.reuses) refl

alike_swap : (a b : Owner) → alike a b ≡ alike b a
alike_swap a b = rw (same_either_way a.net b.net, same_either_way a.port b.port, same_either_way a.dev b.dev, same_either_way a.uid b.uid, same_either_way a.addr b.addr) refl

record Alike (a b : Owner) : Type 0 where
  net : a.net ≡ b.net
  port : a.port ≡ b.port
  dev : a.dev ≡ b.dev
  uid : a.uid ≡ b.uid
  addr : a.addr ≡ b.addr

one_key : {a b : Owner} → Alike a b → owner_key a ≡ owner_key b
one_key same = rw (same.port, same.net) refl

are_alike : (a b : Owner) → alike a b ≡ true → Alike a b
are_alike a b h = record {
  net = grind (arith, nat_tests, h);
  port = grind (arith, nat_tests, h);
  dev = grind (arith, nat_tests, h);
  uid = grind (arith, nat_tests, h);
  addr = grind (arith, nat_tests, h);
}

alike_through : (a x y : Owner) → Alike a x → alike x y ≡ alike a y
alike_through a x y same = rw (same.net, same.port, same.dev, same.uid, same.addr) refl

and_swap : (a b : Bool) → (a && b) ≡ (b && a)
and_swap true true = refl
and_swap true false = refl
and_swap false true = refl
and_swap false false = refl

together_swap : (groups : List Group) (a b : ℕ) → are_together groups a b ≡ are_together groups b a
together_swap groups a b =
    any_same (λ g. has_member a g && has_member b g) (λ g. has_member b g && has_member a g) groups
    (each_of_all (λ g. (has_member a g && has_member b g) ≡ (has_member b g && has_member a g)) groups (λ g. and_swap (has_member a g) (has_member b g)))

mates_swap : (groups : List Group) (a b : Socket) → GroupsAreOfMates groups a b → GroupsAreOfMates groups b a
mates_swap groups a b h p q =
    let first = shares a q in
    let second = shares b p in
    together_swap groups b.owner.name a.owner.name ∙ h q p ∙ mate_if_alike a.owner b first.reuses second ∙ alike_swap a.owner b.owner ∙ sym (mate_if_alike b.owner a second.reuses first)

-- a socket in the place of the one of its name

put_one : (P : Socket → Type 0) (new x : Socket) (b : Bool) → has_name new.owner.name x ≡ b → P new → (NamesDiffer new x → P x) → P (cond b new x)
put_one P new x true e p q = p
put_one P new x false e p q = q (λ f. eqb-false x.owner.name new.owner.name e (sym f))

each_put_others : (P : Socket → Type 0) (new : Socket) (xs : List Socket) → P new → Each (λ x. NamesDiffer new x → P x) xs → Each P (put new xs)
each_put_others P new xs p each =
    each_map P (replaced new) xs (each_weaken (λ x. NamesDiffer new x → P x) (λ x. P (replaced new x)) xs (λ x q. put_one P new x (has_name new.owner.name x) refl p q) each)

named_alike : (m : ℕ) (new x : Socket) (b : Bool) → has_name new.owner.name x ≡ b → has_name m (cond b new x) ≡ has_name m x
named_alike m new x true e = ap (λ k. k == m) (sym (eqb-true x.owner.name new.owner.name e))
named_alike m new x false e = refl

known_put : (m : ℕ) (new : Socket) (sockets : List Socket) → list_any (has_name m) (put new sockets) ≡ list_any (has_name m) sockets
known_put m new sockets =
    any_map (has_name m) (has_name m) (replaced new) sockets
    (each_of_all (λ x. has_name m (replaced new x) ≡ has_name m x) sockets (λ x. named_alike m new x (has_name new.owner.name x) refl))

abbrev IsKnown : List Socket → ℕ → Type 0
IsKnown sockets name = list_any (has_name name) sockets ≡ true

each_known_put : (new : Socket) (sockets : List Socket) (names : List ℕ) → Each (IsKnown sockets) names → Each (IsKnown (put new sockets)) names
each_known_put new sockets names known =
    each_weaken (IsKnown sockets) (IsKnown (put new sockets)) names (λ m k. known_put m new sockets ∙ k) known

group_put : (buckets : ℕ) (new : Socket) (sockets : List Socket) (g : Group) → IsOut new.owner.name g → IsGroupOf buckets sockets g → IsGroupOf buckets (put new sockets) g
group_put buckets new sockets g out is = record {
  some = is.some;
  most = is.most;
  differ = is.differ;
  known = each_known_put new sockets g.members is.known;
  bucket = each_put_others (InBucket buckets g) new sockets (λ e. absurd (both_ways (has_member new.owner.name g) out e))
      (each_weaken (InBucket buckets g) (λ x. NamesDiffer new x → InBucket buckets g x) sockets (λ x k differ. k) is.bucket);
}

pub put_grouped : (buckets : ℕ) (new : Socket) (sockets : List Socket) (groups : List Group) → Pairs NamesDiffer sockets → is_sharing new ≡ false → count_by (has_member new.owner.name) groups ≡ 0 → AreGroupsOf buckets sockets groups → AreGroupsOf buckets (put new sockets) groups
put_grouped buckets new sockets groups names quiet out is = record {
  numbers = is.numbers;
  each = each_weaken (λ g. IsOut new.owner.name g × IsGroupOf buckets sockets g) (IsGroupOf buckets (put new sockets)) groups (λ g h. group_put buckets new sockets g h.0 h.1)
      (each_both (IsOut new.owner.name) (IsGroupOf buckets sockets) groups (none_counted (has_member new.owner.name) groups out) is.each);
  sharing = each_put (IsInOneGroup groups) new sockets (counts_none (is_sharing new) (count_by (has_member new.owner.name) groups) quiet out) is.sharing;
  mates = pairs_put (GroupsAreOfMates groups) (mates_swap groups) new sockets names is.mates
      (each_of_all (λ x. NamesDiffer new x → GroupsAreOfMates groups new x) sockets (λ x differ p. absurd (both_ways (is_sharing new) quiet p)));
}

-- a socket that comes last

not_member : (buckets name : ℕ) (sockets : List Socket) (g : Group) → Each (λ x. x.owner.name ≢ name) sockets → IsGroupOf buckets sockets g → IsOut name g
not_member buckets name sockets g apart is =
    none_any (λ m. m == name) g.members
    (each_weaken (IsKnown sockets) (λ m. (m == name) ≡ false) g.members
    (λ m known. ne_eqb m name (λ e. any_gives ⊥ (has_name m) sockets (each_weaken (λ x. x.owner.name ≢ name) (λ x. has_name m x ≡ true → ⊥) sockets (λ x differ h. differ (eqb-true x.owner.name m h ∙ e)) apart) known))
    is.known)

group_push : (buckets : ℕ) (new : Socket) (sockets : List Socket) (g : Group) → IsOut new.owner.name g → IsGroupOf buckets sockets g → IsGroupOf buckets (sockets ++ new ∷ []) g
group_push buckets new sockets g out is = record {
  some = is.some;
  most = is.most;
  differ = is.differ;
  known = each_weaken (IsKnown sockets) (IsKnown (sockets ++ new ∷ [])) g.members (λ m k. any_push (has_name m) sockets new ∙ ap (λ b. b || has_name m new) k) is.known;
  bucket = each_push (InBucket buckets g) sockets new is.bucket (λ e. absurd (both_ways (has_member new.owner.name g) out e));
}

pub push_grouped : (buckets : ℕ) (new : Socket) (sockets : List Socket) (groups : List Group) → Each (λ x. NamesDiffer x new) sockets → is_sharing new ≡ false → AreGroupsOf buckets sockets groups → AreGroupsOf buckets (sockets ++ new ∷ []) groups
push_grouped buckets new sockets groups names quiet is =
    let out : Each (IsOut new.owner.name) groups = each_weaken (IsGroupOf buckets sockets) (IsOut new.owner.name) groups (λ g h. not_member buckets new.owner.name sockets g names h) is.each in
    record {
      numbers = is.numbers;
      each = each_weaken (λ g. IsOut new.owner.name g × IsGroupOf buckets sockets g) (IsGroupOf buckets (sockets ++ new ∷ [])) groups (λ g h. group_push buckets new sockets g h.0 h.1)
          (each_both (IsOut new.owner.name) (IsGroupOf buckets sockets) groups out is.each);
      sharing = each_push (IsInOneGroup groups) sockets new is.sharing (counts_none (is_sharing new) (count_by (has_member new.owner.name) groups) quiet (none_passing (has_member new.owner.name) groups out));
      mates = pairs_push (GroupsAreOfMates groups) sockets new is.mates (each_of_all (λ x. GroupsAreOfMates groups x new) sockets (λ x p q. absurd (both_ways (is_sharing new) quiet q)));
    }

-- sockets that share no end are gone

kept_if : (g : Group) (m : ℕ) (x : Socket) (b : Bool) → (b ≡ false → is_sharing x ≡ false) → QuietOut g x → has_member m g ≡ true → has_name m x ≡ true → b ≡ true
kept_if g m x true gone out member e = refl
kept_if g m x false gone out member e =
    absurd (both_ways (has_member m g) (ap (λ k. has_member k g) (sym (eqb-true x.owner.name m e)) ∙ out (gone refl)) member)

group_filter : (buckets : ℕ) (keep : Socket → Bool) (sockets : List Socket) (g : Group) → ((x : Socket) → keep x ≡ false → is_sharing x ≡ false) → Each (QuietOut g) sockets → IsGroupOf buckets sockets g → IsGroupOf buckets (filter keep sockets) g
group_filter buckets keep sockets g gone out is = record {
  some = is.some;
  most = is.most;
  differ = is.differ;
  known = each_weaken (λ m. (has_member m g ≡ true) × IsKnown sockets m) (IsKnown (filter keep sockets)) g.members
      (λ m h. any_filter (has_name m) keep sockets (each_weaken (QuietOut g) (λ x. has_name m x ≡ true → keep x ≡ true) sockets (λ x o. kept_if g m x (keep x) (gone x) o h.0) out) ∙ h.1)
      (each_both (λ m. has_member m g ≡ true) (IsKnown sockets) g.members (each_among g.members) is.known);
  bucket = each_filter (InBucket buckets g) keep sockets is.bucket;
}

pub filter_grouped : (buckets : ℕ) (keep : Socket → Bool) (sockets : List Socket) (groups : List Group) → ((x : Socket) → keep x ≡ false → is_sharing x ≡ false) → AreGroupsOf buckets sockets groups → AreGroupsOf buckets (filter keep sockets) groups
filter_grouped buckets keep sockets groups gone is = record {
  numbers = is.numbers;
  each = each_weaken (λ g. Each (QuietOut g) sockets × IsGroupOf buckets sockets g) (IsGroupOf buckets (filter keep sockets)) groups (λ g h. group_filter buckets keep sockets g gone h.0 h.1)
      (each_both (λ g. Each (QuietOut g) sockets) (IsGroupOf buckets sockets) groups (quiet_out groups sockets is.sharing) is.each);
  sharing = each_filter (IsInOneGroup groups) keep sockets is.sharing;
  mates = pairs_filter (GroupsAreOfMates groups) keep sockets is.mates;
}

-- a socket is gone, and from its group

left : ℕ → Group → Group
left name g = record g { members = left_by name g.members }

leave_other_if : (buckets name q : ℕ) (sockets : List Socket) (g : Group) (b : Bool) → has_member name g ≡ b → IsGroupOf buckets sockets g → name ≢ q → has_member q (cond b (left name g) g) ≡ has_member q g
unfolding left
leave_other_if buckets name q sockets g true e is other = left_others name g.members q is.some is.differ e other
leave_other_if buckets name q sockets g false e is other = refl

leave_other : (buckets name q : ℕ) (sockets : List Socket) (g : Group) → IsGroupOf buckets sockets g → name ≢ q → has_member q (leave_group name g) ≡ has_member q g
unfolding left
leave_other buckets name q sockets g is other = leave_other_if buckets name q sockets g (has_member name g) refl is other

-- the group that is left has the number that it had
pub number_left : (name : ℕ) (g : Group) → (leave_group name g).number ≡ g.number
unfolding left
number_left name g = cond_both (has_member name g) (left name g) g (λ h. h.number ≡ g.number) (λ _. refl) (λ _. refl)

known_without : (m name : ℕ) (sockets : List Socket) → m ≢ name → list_any (has_name m) (without name sockets) ≡ list_any (has_name m) sockets
known_without m name sockets differ =
    any_filter (has_name m) (λ s. not (has_name name s)) sockets
    (each_of_all (λ x. has_name m x ≡ true → not (has_name name x) ≡ true) sockets (λ x e. ap not (ne_eqb x.owner.name name (λ f. differ (sym (eqb-true x.owner.name m e) ∙ f)))))

each_known_without : (name : ℕ) (sockets : List Socket) (names : List ℕ) → Each (λ m. (m == name) ≡ false) names → Each (IsKnown sockets) names → Each (IsKnown (without name sockets)) names
each_known_without name sockets names apart known =
    each_weaken (λ m. ((m == name) ≡ false) × IsKnown sockets m) (IsKnown (without name sockets)) names (λ m h. known_without m name sockets (eqb-false m name h.0) ∙ h.1)
    (each_both (λ m. (m == name) ≡ false) (IsKnown sockets) names apart known)

-- a member that is left was one
was_member : (buckets name : ℕ) (sockets : List Socket) (g : Group) → IsGroupOf buckets sockets g → has_member name g ≡ true → (q : ℕ) (b : Bool) → (name == q) ≡ b → has_member q (left name g) ≡ true → has_member q g ≡ true
unfolding left
was_member buckets name sockets g is member q true e h = ap (λ k. has_member k g) (sym (eqb-true name q e)) ∙ member
was_member buckets name sockets g is member q false e h = sym (left_others name g.members q is.some is.differ member (eqb-false name q e)) ∙ h

leave_if : (buckets name : ℕ) (sockets : List Socket) (g : Group) (b : Bool) → has_member name g ≡ b → IsGroupOf buckets sockets g → has_members (cond b (left name g) g) ≡ true → IsGroupOf buckets (without name sockets) (cond b (left name g) g)
unfolding left
leave_if buckets name sockets g true e is some = record {
  some = let more = ltb-true 0 (length (left_by name g.members)) some in omega (arith, more);
  most = let fewer = left_length name g.members in let most = is.most in omega (arith, fewer, most);
  differ = left_differ name g.members is.some is.differ;
  known = each_known_without name sockets (left_by name g.members) (each_unless_any (λ m. m == name) (left_by name g.members) (left_itself name g.members is.some is.differ))
      (each_left (IsKnown sockets) name g.members is.some is.differ is.known);
  bucket = each_filter (InBucket buckets (left name g)) (λ s. not (has_name name s)) sockets
      (each_weaken (InBucket buckets g) (InBucket buckets (left name g)) sockets (λ x k h. k (was_member buckets name sockets g is e x.owner.name (name == x.owner.name) refl h)) is.bucket);
}
leave_if buckets name sockets g false e is some = record {
  some = is.some;
  most = is.most;
  differ = is.differ;
  known = each_known_without name sockets g.members (each_unless_any (λ m. m == name) g.members e) is.known;
  bucket = each_filter (InBucket buckets g) (λ s. not (has_name name s)) sockets is.bucket;
}

group_leave : (buckets name : ℕ) (sockets : List Socket) (g : Group) → IsGroupOf buckets sockets g → has_members (leave_group name g) ≡ true → IsGroupOf buckets (without name sockets) (leave_group name g)
unfolding left
group_leave buckets name sockets g is some = leave_if buckets name sockets g (has_member name g) refl is some

has_some : (q : ℕ) (xs : List ℕ) → list_any (λ m. m == q) xs ≡ true → nat_lt 0 (length xs) ≡ true
has_some q [] h = absurd (both_ways false refl h)
has_some q (x ∷ xs) h = lt-ltb 0 (length (x ∷ xs)) (omega arith)

count_left : (buckets name q : ℕ) (sockets : List Socket) (groups : List Group) → Each (IsGroupOf buckets sockets) groups → name ≢ q → count_by (has_member q) (leave name groups) ≡ count_by (has_member q) groups
count_left buckets name q sockets groups is other =
    count_filter (has_member q) has_members (map (leave_group name) groups) (λ g h. has_some q g.members h)
    ∙ count_map (has_member q) (has_member q) (leave_group name) groups
    (each_weaken (IsGroupOf buckets sockets) (λ g. has_member q (leave_group name g) ≡ has_member q g) groups (λ g h. leave_other buckets name q sockets g h other) is)

both_same : (a b c d : Bool) → a ≡ c → b ≡ d → (a && b) ≡ (c && d)
both_same a b c d e f = ap (λ x. x && b) e ∙ ap (λ x. c && x) f

together_left : (buckets name q r : ℕ) (sockets : List Socket) (groups : List Group) → Each (IsGroupOf buckets sockets) groups → name ≢ q → name ≢ r → are_together (leave name groups) q r ≡ are_together groups q r
together_left buckets name q r sockets groups is first second =
    let both : Group → Bool = λ g. has_member q g && has_member r g in
    any_filter both has_members (map (leave_group name) groups)
    (each_of_all (λ g. both g ≡ true → has_members g ≡ true) (map (leave_group name) groups) (λ g h. has_some q g.members (and_parts (has_member q g) (has_member r g) h).0))
    ∙ any_map both both (leave_group name) groups
    (each_weaken (IsGroupOf buckets sockets) (λ g. both (leave_group name g) ≡ both g) groups
    (λ g h. both_same _ _ _ _ (leave_other buckets name q sockets g h first) (leave_other buckets name r sockets g h second)) is)

others_named : (name : ℕ) (x : Socket) → not (has_name name x) ≡ true → name ≢ x.owner.name
others_named name x h same = both_ways (not (has_name name x)) (ap not (eq-eqb x.owner.name name (sym same))) h

pub remove_grouped : (buckets name : ℕ) (sockets : List Socket) (groups : List Group) → AreGroupsOf buckets sockets groups → AreGroupsOf buckets (without name sockets) (leave name groups)
remove_grouped buckets name sockets groups is =
    let stays : Socket → Bool = λ s. not (has_name name s) in
    let Other : Socket → Type 0 = λ x. name ≢ x.owner.name in
    record {
      numbers = pairs_filter NumbersDiffer has_members (map (leave_group name) groups)
          (pairs_map NumbersDiffer (leave_group name) groups
          (pairs_weaken NumbersDiffer (λ a b. NumbersDiffer (leave_group name a) (leave_group name b)) groups (λ a b differ same. differ (sym (number_left name a) ∙ same ∙ number_left name b)) is.numbers));
      each = each_filter_kept (IsGroupOf buckets (without name sockets)) has_members (map (leave_group name) groups)
          (each_map (λ g. has_members g ≡ true → IsGroupOf buckets (without name sockets) g) (leave_group name) groups
          (each_weaken (IsGroupOf buckets sockets) (λ g. has_members (leave_group name g) ≡ true → IsGroupOf buckets (without name sockets) (leave_group name g)) groups (λ g h. group_leave buckets name sockets g h) is.each));
      sharing = each_filter_kept (IsInOneGroup (leave name groups)) stays sockets
          (each_weaken (IsInOneGroup groups) (λ x. stays x ≡ true → IsInOneGroup (leave name groups) x) sockets (λ x h k. count_left buckets name x.owner.name sockets groups is.each (others_named name x k) ∙ h) is.sharing);
      mates = pairs_weaken (λ a b. GroupsAreOfMates groups a b × (Other a × Other b)) (GroupsAreOfMates (leave name groups)) (without name sockets)
          (λ a b h p q. together_left buckets name a.owner.name b.owner.name sockets groups is.each h.1.0 h.1.1 ∙ h.0 p q)
          (pairs_both (GroupsAreOfMates groups) (λ a b. Other a × Other b) (without name sockets) (pairs_filter (GroupsAreOfMates groups) stays sockets is.mates)
          (pairs_of_each Other (without name sockets) (each_filter_kept Other stays sockets (each_of_all (λ x. stays x ≡ true → Other x) sockets (λ x. others_named name x)))));
    }

-- who is in none of the groups leaves them as they are
left_alone : (name : ℕ) (groups : List Group) → Each (λ g. IsOut name g × (has_members g ≡ true)) groups → leave name groups ≡ groups
left_alone name [] h = refl
left_alone name (g ∷ groups) h = rw (h.0.0, h.0.1, left_alone name groups h.1) refl

pub leave_none : (buckets name : ℕ) (sockets : List Socket) (groups : List Group) → count_by (has_member name) groups ≡ 0 → AreGroupsOf buckets sockets groups → leave name groups ≡ groups
leave_none buckets name sockets groups out is =
    left_alone name groups
    (each_both (IsOut name) (λ g. has_members g ≡ true) groups (none_counted (has_member name) groups out)
    (each_weaken (IsGroupOf buckets sockets) (λ g. has_members g ≡ true) groups (λ g h. lt-ltb 0 (length g.members) h.some) is.each))

-- a listener enters the groups: in that of its mate, or in one of its own

-- what entering is, for a socket in the place of one that was in no group
pub record Enters (buckets : ℕ) (new : Socket) (sockets : List Socket) (old groups : List Group) : Type 0 where
  numbers : Pairs NumbersDiffer groups
  each : Each (IsGroupOf buckets (put new sockets)) groups
  mine : count_by (has_member new.owner.name) groups ≡ 1
  others : (q : ℕ) → new.owner.name ≢ q → count_by (has_member q) groups ≡ count_by (has_member q) old
  together : (q r : ℕ) → new.owner.name ≢ q → new.owner.name ≢ r → are_together groups q r ≡ are_together old q r
  mates : Each (λ x. NamesDiffer new x → GroupsAreOfMates groups new x) sockets

-- who shares an end is another, since the one of that name is in no group
apart_if : (groups : List Group) (name : ℕ) (x : Socket) → count_by (has_member name) groups ≡ 0 → IsInOneGroup groups x → is_sharing x ≡ true → name ≢ x.owner.name
apart_if groups name x out one shares same =
    let none : count_by (has_member x.owner.name) groups ≡ 0 = subst (λ k. count_by (has_member k) groups ≡ 0) same out in
    let once = count_sharing groups x shares one in
    absurd (omega (arith, none, once))

pub enter_grouped : (buckets : ℕ) (new : Socket) (sockets : List Socket) (old groups : List Group) → Pairs NamesDiffer sockets → is_sharing new ≡ true → count_by (has_member new.owner.name) old ≡ 0 → Enters buckets new sockets old groups → AreGroupsOf buckets sockets old → AreGroupsOf buckets (put new sockets) groups
enter_grouped buckets new sockets old groups names shares out enters is =
    let Apart : Socket → Type 0 = λ x. is_sharing x ≡ true → new.owner.name ≢ x.owner.name in
    record {
      numbers = enters.numbers;
      each = enters.each;
      sharing = each_put_others (IsInOneGroup groups) new sockets (counts_one (is_sharing new) (count_by (has_member new.owner.name) groups) shares enters.mine)
          (each_weaken (IsInOneGroup old) (λ x. NamesDiffer new x → IsInOneGroup groups x) sockets (λ x h differ. enters.others x.owner.name differ ∙ h) is.sharing);
      mates = pairs_put (GroupsAreOfMates groups) (mates_swap groups) new sockets names
          (pairs_weaken (λ a b. GroupsAreOfMates old a b × (Apart a × Apart b)) (GroupsAreOfMates groups) sockets
          (λ a b h p q. enters.together a.owner.name b.owner.name (h.1.0 p) (h.1.1 q) ∙ h.0 p q)
          (pairs_both (GroupsAreOfMates old) (λ a b. Apart a × Apart b) sockets is.mates
          (pairs_of_each Apart sockets (each_weaken (IsInOneGroup old) Apart sockets (λ x h p. apart_if old new.owner.name x out h p) is.sharing))))
          enters.mates;
    }

-- the mate's group

joined : ℕ → Group → Group
joined name g = record g { members = g.members ++ name ∷ [] }

number_joined : (mate name : ℕ) (g : Group) → (join_group mate name g).number ≡ g.number
unfolding joined
number_joined mate name g = cond_both (has_member mate g) (joined name g) g (λ h. h.number ≡ g.number) (λ _. refl) (λ _. refl)

has_room : (members : List ℕ) (in_it : Bool) → in_it ≡ true → (in_it && (length members == group_room)) ≡ false → length members ≤ group_room → length members + 1 ≤ group_room
has_room members true e h most = let no = eqb-false (length members) group_room h in omega (arith, no, most)
has_room members false e h most = absurd (both_ways false refl e)

or_left : (a b : Bool) → b ≡ false → (a || b) ≡ true → a ≡ true
or_left true b e h = refl
or_left false b e h = absurd (both_ways b e h)

joined_was : (name q : ℕ) (g : Group) → name ≢ q → has_member q (joined name g) ≡ true → has_member q g ≡ true
unfolding joined
joined_was name q g differ h =
    or_left (has_member q g) (name == q) (ne_eqb name q differ) (sym (any_push (λ m. m == q) g.members name) ∙ h)

-- what is known of one group as the socket joins: it isn't in it, the group isn't full, and its port and namespace
-- are the mate's
record MayJoin (buckets : ℕ) (new mate : Socket) (sockets : List Socket) (g : Group) : Type 0 where
  out : IsOut new.owner.name g
  room : is_full_group mate.owner.name g ≡ false
  is : IsGroupOf buckets sockets g
  mates : has_member mate.owner.name g ≡ true → bucket_of (owner_key mate.owner) buckets ≡ g.number / 8

join_if : (buckets : ℕ) (new mate : Socket) (sockets : List Socket) (g : Group) (b : Bool) → has_member mate.owner.name g ≡ b → owner_key new.owner ≡ owner_key mate.owner → IsKnown sockets new.owner.name → MayJoin buckets new mate sockets g → IsGroupOf buckets (put new sockets) (cond b (joined new.owner.name g) g)
unfolding joined
join_if buckets new mate sockets g true e port known may = record {
  some = let n = length-append g.members (new.owner.name ∷ []) in omega (arith, n);
  most = let n : length (g.members ++ new.owner.name ∷ []) ≡ length g.members + 1 = length-append g.members (new.owner.name ∷ []) in let room = has_room g.members (has_member mate.owner.name g) e may.room may.is.most in omega (arith, n, room);
  differ = pairs_push (λ a c. a ≢ c) g.members new.owner.name may.is.differ (each_weaken (λ m. (m == new.owner.name) ≡ false) (λ m. m ≢ new.owner.name) g.members (λ m h. eqb-false m new.owner.name h) (each_unless_any (λ m. m == new.owner.name) g.members may.out));
  known = each_push (IsKnown (put new sockets)) g.members new.owner.name (each_known_put new sockets g.members may.is.known) (known_put new.owner.name new sockets ∙ known);
  bucket = each_put_others (InBucket buckets (joined new.owner.name g)) new sockets (λ _. ap (λ k. bucket_of k buckets) port ∙ may.mates e)
      (each_weaken (InBucket buckets g) (λ x. NamesDiffer new x → InBucket buckets (joined new.owner.name g) x) sockets (λ x k differ h. k (joined_was new.owner.name x.owner.name g differ h)) may.is.bucket);
}
join_if buckets new mate sockets g false e port known may = group_put buckets new sockets g may.out may.is

join_one : (buckets : ℕ) (new mate : Socket) (sockets : List Socket) (g : Group) → owner_key new.owner ≡ owner_key mate.owner → IsKnown sockets new.owner.name → MayJoin buckets new mate sockets g → IsGroupOf buckets (put new sockets) (join_group mate.owner.name new.owner.name g)
unfolding joined
join_one buckets new mate sockets g port known may = join_if buckets new mate sockets g (has_member mate.owner.name g) refl port known may

-- with its mates a listener is in one group, and with no others
mates_with : (old : List Group) (new mate x : Socket) → Alike new.owner mate.owner → Shares mate → new.owner.reuseport ≡ true → count_by (has_member mate.owner.name) old ≡ 1 → is_mate new.owner mate ≡ true → (x ≡ mate) ⊎ GroupsAreOfMates old mate x → is_sharing mate ≡ true → is_sharing x ≡ true → are_together old mate.owner.name x.owner.name ≡ is_mate new.owner x
mates_with old new mate x same is reuses once found (inl e) p q =
    ap (λ (y : Socket). are_together old mate.owner.name y.owner.name) e
    ∙ any_same (λ g. has_member mate.owner.name g && has_member mate.owner.name g) (has_member mate.owner.name) old
    (each_of_all (λ g. (has_member mate.owner.name g && has_member mate.owner.name g) ≡ has_member mate.owner.name g) old (λ g. and_itself (has_member mate.owner.name g)))
    ∙ one_counted (has_member mate.owner.name) old once ∙ sym found ∙ sym (ap (is_mate new.owner) e)
  where
    and_itself : (b : Bool) → (b && b) ≡ b
    and_itself true = refl
    and_itself false = refl
mates_with old new mate x same is reuses once found (inr h) p q =
    h p q ∙ mate_if_alike mate.owner x is.reuses (shares x q) ∙ alike_through new.owner mate.owner x.owner same
    ∙ sym (mate_if_alike new.owner x reuses (shares x q))

record IsMate (new mate : Socket) : Type 0 where
  shares : is_sharing mate ≡ true
  reuses : new.owner.reuseport ≡ true
  same : Alike new.owner mate.owner

-- l listens, r and s share their ends, the rest is alike
mate_bools : (l r s p d u a : Bool) → (l && (r && s) && p && d && u && a) ≡ true → (l ≡ true) × (r ≡ true) × (s ≡ true) × ((p && d && u && a) ≡ true)
mate_bools true true true p d u a h = (refl, refl, refl, h)
mate_bools true true false p d u a h = absurd (both_ways false refl h)
mate_bools true false s p d u a h = absurd (both_ways false refl h)
mate_bools false r s p d u a h = absurd (both_ways false refl h)

mate_parts : (new mate : Socket) → is_mate new.owner mate ≡ true → IsMate new mate
mate_parts new mate h =
    let parts = mate_bools (is_listening mate.owner.state) new.owner.reuseport mate.owner.reuseport (same_port new.owner mate.owner) (new.owner.dev == mate.owner.dev) (new.owner.uid == mate.owner.uid) (new.owner.addr == mate.owner.addr) h in
    record {
      shares = both_true (is_listening mate.owner.state) mate.owner.reuseport parts.0 parts.2;
      reuses = parts.1;
      same = are_alike new.owner mate.owner parts.3;
    }

pub join_enters : (buckets : ℕ) (new mate : Socket) (sockets : List Socket) (old : List Group) → find (is_mate new.owner) sockets ≡ Some mate → IsKnown sockets new.owner.name → count_by (has_member new.owner.name) old ≡ 0
    → list_any (is_full_group mate.owner.name) old ≡ false → AreGroupsOf buckets sockets old → Enters buckets new sockets old (map (join_group mate.owner.name new.owner.name) old)
join_enters buckets new mate sockets old at known out room is =
    let name : ℕ = new.owner.name in
    let its : ℕ = mate.owner.name in
    let found : is_mate new.owner mate ≡ true = found_passes (is_mate new.owner) sockets mate at in
    let parts : IsMate new mate = mate_parts new mate found in
    let once : count_by (has_member its) old ≡ 1 = count_sharing old mate parts.shares (each_found (IsInOneGroup old) (is_mate new.owner) sockets mate is.sharing at) in
    let outs : Each (IsOut name) old = none_counted (has_member name) old out in
    let HasRoom : Group → Type 0 = λ g. is_full_group its g ≡ false in
    let may : Each (MayJoin buckets new mate sockets) old =
    each_weaken (λ g. IsOut name g × (HasRoom g × IsGroupOf buckets sockets g)) (MayJoin buckets new mate sockets) old
    (λ g h. record { out = h.0; room = h.1.0; is = h.1.1; mates = each_found (InBucket buckets g) (is_mate new.owner) sockets mate h.1.1.bucket at })
    (each_both (IsOut name) (λ g. HasRoom g × IsGroupOf buckets sockets g) old outs (each_both HasRoom (IsGroupOf buckets sockets) old (each_unless_any (is_full_group its) old room) is.each)) in
    record {
      numbers = pairs_map NumbersDiffer (join_group its name) old
          (pairs_weaken NumbersDiffer (λ a b. NumbersDiffer (join_group its name a) (join_group its name b)) old (λ a b differ same. differ (sym (number_joined its name a) ∙ same ∙ number_joined its name b)) is.numbers);
      each = each_map (IsGroupOf buckets (put new sockets)) (join_group its name) old
          (each_weaken (MayJoin buckets new mate sockets) (λ g. IsGroupOf buckets (put new sockets) (join_group its name g)) old (λ g h. join_one buckets new mate sockets g (one_key parts.same) known h) may);
      mine = count_map (has_member name) (has_member its) (join_group its name) old
          (each_weaken (IsOut name) (λ g. has_member name (join_group its name g) ≡ has_member its g) old (λ g o. joined_itself its name g o) outs) ∙ once;
      others = λ q differ. count_map (has_member q) (has_member q) (join_group its name) old (each_of_all (λ g. has_member q (join_group its name g) ≡ has_member q g) old (λ g. joined_other q its name g differ));
      together = λ q r first second. any_map (λ g. has_member q g && has_member r g) (λ g. has_member q g && has_member r g) (join_group its name) old
          (each_of_all (λ g. (has_member q (join_group its name g) && has_member r (join_group its name g)) ≡ (has_member q g && has_member r g)) old (λ g. both_same _ _ _ _ (joined_other q its name g first) (joined_other r its name g second)));
      mates = each_weaken (λ x. (x ≡ mate) ⊎ GroupsAreOfMates old mate x) (λ x. NamesDiffer new x → GroupsAreOfMates (map (join_group its name) old) new x) sockets
          (λ x h differ p q. any_map (λ g. has_member name g && has_member x.owner.name g) (λ g. has_member its g && has_member x.owner.name g) (join_group its name) old
          (each_weaken (IsOut name) (λ g. (has_member name (join_group its name g) && has_member x.owner.name (join_group its name g)) ≡ (has_member its g && has_member x.owner.name g)) old
          (λ g o. both_same _ _ _ _ (joined_itself its name g o) (joined_other x.owner.name its name g differ)) outs)
          ∙ mates_with old new mate x parts.same (shares mate parts.shares) parts.reuses once found h parts.shares q)
          (pairs_found (GroupsAreOfMates old) (is_mate new.owner) sockets mate (mates_swap old) is.mates at);
    }

-- a group of its own

none_at : {A : Type 0} (p : A → Bool) (x : A) (xs : List A) → (p x ≡ true) ⊎ (p x ≡ false) → (find p xs ≡ None → Each (λ y. p y ≡ false) xs) → find p (x ∷ xs) ≡ None → Each (λ y. p y ≡ false) (x ∷ xs)
none_at p x xs (inl e) rest h = absurd (let found = rw e at h in cc)
none_at p x xs (inr e) rest h = (e, rest (rw e at h))

none_found : {A : Type 0} (p : A → Bool) (xs : List A) → find p xs ≡ None → Each (λ x. p x ≡ false) xs
none_found p [] h = tt
none_found p (x ∷ xs) h = none_at p x xs (cases_Bool (p x)) (none_found p xs) h

alone : ℕ → ℕ → Group
alone number name = record { number = number; members = name ∷ [] }

not_alone : (number name q : ℕ) → name ≢ q → has_member q (alone number name) ≡ false
unfolding alone
not_alone number name q differ = rw (ne_eqb name q differ) refl

is_alone : (number name : ℕ) → has_member name (alone number name) ≡ true
unfolding alone
is_alone number name = rw (eq-eqb name name refl) refl

alone_group : (buckets number : ℕ) (new : Socket) (sockets : List Socket) → IsKnown sockets new.owner.name → bucket_of (owner_key new.owner) buckets ≡ number / 8 → IsGroupOf buckets (put new sockets) (alone number new.owner.name)
unfolding alone
alone_group buckets number new sockets known port = record {
  some = omega arith;
  most = omega arith;
  differ = (tt, tt);
  known = (known_put new.owner.name new sockets ∙ known, tt);
  bucket = each_put_others (InBucket buckets (alone number new.owner.name)) new sockets (λ _. port)
      (each_of_all (λ x. NamesDiffer new x → InBucket buckets (alone number new.owner.name) x) sockets
      (λ x differ h. absurd (both_ways (has_member x.owner.name (alone number new.owner.name)) (not_alone number new.owner.name x.owner.name differ) h)));
}

no_more : (a b : Bool) → b ≡ false → (a || b) ≡ a
no_more true b e = refl
no_more false b e = e

and_no : (a b : Bool) → b ≡ false → (a && b) ≡ false
and_no true b e = e
and_no false b e = refl

pub begin_enters : (buckets number : ℕ) (new : Socket) (sockets : List Socket) (old : List Group) → find (is_mate new.owner) sockets ≡ None → IsKnown sockets new.owner.name → count_by (has_member new.owner.name) old ≡ 0
    → is_used old number ≡ false → bucket_of (owner_key new.owner) buckets ≡ number / 8 → AreGroupsOf buckets sockets old → Enters buckets new sockets old (with_group new.owner.name number old)
unfolding alone
begin_enters buckets number new sockets old none known out unused port is =
    let name : ℕ = new.owner.name in
    let own : Group = alone number name in
    let outs : Each (IsOut name) old = none_counted (has_member name) old out in
    record {
      numbers = pairs_push NumbersDiffer old own is.numbers (each_weaken (λ (g : Group). (g.number == number) ≡ false) (λ g. g.number ≢ number) old (λ g h. eqb-false g.number number h) (each_unless_any (λ (g : Group). g.number == number) old unused));
      each = each_push (IsGroupOf buckets (put new sockets)) old own
          (each_weaken (λ g. IsOut name g × IsGroupOf buckets sockets g) (IsGroupOf buckets (put new sockets)) old (λ g h. group_put buckets new sockets g h.0 h.1) (each_both (IsOut name) (IsGroupOf buckets sockets) old outs is.each))
          (alone_group buckets number new sockets known port);
      mine = count_push (has_member name) old own ∙ rw (out, is_alone number name) refl;
      others = λ q differ. count_push (has_member q) old own ∙ rw (not_alone number name q differ) (omega arith);
      together = λ q r first second. any_push (λ g. has_member q g && has_member r g) old own
          ∙ no_more (are_together old q r) (has_member q own && has_member r own) (and_no (has_member q own) (has_member r own) (not_alone number name r second));
      mates = each_weaken (λ x. is_mate new.owner x ≡ false) (λ x. NamesDiffer new x → GroupsAreOfMates (with_group name number old) new x) sockets
          (λ x no_mate differ p q. any_push (λ g. has_member name g && has_member x.owner.name g) old own
          ∙ no_more (are_together old name x.owner.name) (has_member name own && has_member x.owner.name own) (and_no (has_member name own) (has_member x.owner.name own) (not_alone number name x.owner.name differ))
          ∙ none_any (λ g. has_member name g && has_member x.owner.name g) old (each_weaken (IsOut name) (λ g. (has_member name g && has_member x.owner.name g) ≡ false) old (λ g o. rw o refl) outs)
          ∙ sym no_mate)
          (none_found (is_mate new.owner) sockets none);
    }

-- Reserved ports as words: they give one value at most, and are read one after the other.
use Rattle.std.proofs.Common.{◌≡◌, ℕ, zero, suc, ◌+◌, ◌-◌, ◌<◌, ◌≤◌, ◌^◌, ◌∙◌, List, [], ◌∷◌, ◌++◌, length, length-set, take, drop, get_or, map, replicate, codes, decimal, arith, refl, sym, ap, ap₂, subst, add-one}
use Rattle.std.specs.List.Sorted.{IsStrictlyIncreasing}
use Rattle.std.proofs.Math.ListN.{set}
use Rattle.std.proofs.Math.Seq.{split_at}
use Rattle.std.proofs.lemmas.Fmt.{decimal_injective}
use Rattle.std.proofs.lemmas.List.{take-append-drop, take_more, take_more_set, take-map, drop-set-lt, length-take-le, map-append, length-map, get_or-map, take_all}
use Rattle.list_words.specs.Lists.{Each}
use Rattle.inet_io.specs.Texts.{IsNumber}
use Rattle.flat_list.specs.declared.header.Reserved.{Reserved}
use Rattle.sock_script.specs.declared.line.Line.TheVariants as lines
use Rattle.sock_script.specs.Forms.{HasForm, IsPort, ReservedFits, reserved_ports, reserved_words}
use Rattle.sock_script.proofs.Words.{past_one}

-- ports from `least` on, each above the one before
abbrev pub Ascends : ℕ → List ℕ → Type 0
Ascends least [] = Unit {0}
Ascends least (p ∷ ps) = (least ≤ p) × (p < 2 ^ 16) × Ascends (p + 1) ps

-- the least port that may follow them
abbrev pub next_port : ℕ → List ℕ → ℕ
next_port least [] = least
next_port least (p ∷ ps) = next_port (p + 1) ps

-- one port more
Ascends-push : (least : ℕ) (ps : List ℕ) (q : ℕ)
    → Ascends least ps → next_port least ps ≤ q → q < 2 ^ 16 → Ascends least (ps ++ q ∷ [])
Ascends-push least [] q h le fits = (le, fits, tt)
Ascends-push least (p ∷ ps) q h le fits = (h.0, h.1, Ascends-push (p + 1) ps q h.2 le fits)

next_port-push : (least : ℕ) (ps : List ℕ) (q : ℕ) → next_port least (ps ++ q ∷ []) ≡ q + 1
next_port-push least [] q = refl
next_port-push least (p ∷ ps) q = next_port-push (p + 1) ps q

-- the first of them, and what holds of the next
Ascends-front : (least : ℕ) (ps qs : List ℕ) → Ascends least (ps ++ qs) → Ascends least ps
Ascends-front least [] qs h = tt
Ascends-front least (p ∷ ps) qs h = (h.0, h.1, Ascends-front (p + 1) ps qs h.2)

Ascends-next : (least : ℕ) (ps : List ℕ) (q : ℕ) (qs : List ℕ)
    → Ascends least (ps ++ q ∷ qs) → (next_port least ps ≤ q) × (q < 2 ^ 16)
Ascends-next least [] q qs h = (h.0, h.1)
Ascends-next least (p ∷ ps) q qs h = Ascends-next (p + 1) ps q qs h.2

-- as the grammar says it
Ascends-ports : (least : ℕ) (ps : List ℕ) → 1 ≤ least → Ascends least ps → Each IsPort ps
Ascends-ports least [] some h = tt
Ascends-ports least (p ∷ ps) some h = ((omega (arith, h.0), h.1), Ascends-ports (p + 1) ps (omega arith) h.2)

rises : (least : ℕ) (ps : List ℕ) → Ascends least ps → (k : ℕ) → suc k < length ps → get_or ps k 0 < get_or ps (suc k) 0
rises least [] h k lt = absurd (omega arith)
rises least (p ∷ []) h k lt = absurd (omega arith)
rises least (p ∷ q ∷ qs) h zero lt = omega (arith, h.2.0)
rises least (p ∷ q ∷ qs) h (suc k) lt = rises (p + 1) (q ∷ qs) h.2 k (omega arith)

Ascends-increasing : (least : ℕ) (ps : List ℕ) → Ascends least ps → IsStrictlyIncreasing ps
Ascends-increasing least ps h = λ k lt. rw add-one (rises least ps h k (omega arith))

tail_rises : (p : ℕ) (ps : List ℕ) → IsStrictlyIncreasing (p ∷ ps) → IsStrictlyIncreasing ps
tail_rises p ps h = λ k lt. rw add-one (rw add-one at (h (suc k) (omega arith)))

ascends_past : (p : ℕ) (ps : List ℕ) → Each IsPort ps → IsStrictlyIncreasing (p ∷ ps) → Ascends (p + 1) ps
ascends_past p [] each h = tt
ascends_past p (q ∷ qs) each h =
    (omega (arith, h 0 (omega arith)), each.0.1, ascends_past q qs each.1 (tail_rises p (q ∷ qs) h))

ascends_from : (ps : List ℕ) → Each IsPort ps → IsStrictlyIncreasing ps → Ascends 1 ps
ascends_from [] each h = tt
ascends_from (p ∷ ps) each h = (each.0.0, each.0.1, ascends_past p ps each.1 h)

-- the same words are the same ports
first_is : (a b : List ℕ) (vs ws : List (List ℕ)) → a ∷ vs ≡ b ∷ ws → a ≡ b
first_is a b vs ws e = cc

same_ports : (ps qs : List ℕ) → Each IsPort ps → Each IsPort qs → map decimal ps ≡ map decimal qs → ps ≡ qs
same_ports [] [] x y h = refl
same_ports [] (q ∷ qs) x y h = cc
same_ports (p ∷ ps) [] x y h = cc
same_ports (p ∷ ps) (q ∷ qs) x y h =
    let first : p ≡ q = decimal_injective p q (omega (arith, x.0.1)) (omega (arith, y.0.1)) (first_is _ _ _ _ h) in
    let rest : ps ≡ qs = same_ports ps qs x.1 y.1 (past_one _ _ _ _ h) in
    ap₂ (λ k ks. k ∷ ks) first rest

module _ (r : Reserved) (fits : ReservedFits r) where
  count_is : length (reserved_ports r) ≡ r.count
  count_is = length-take-le r.count r.ports (omega (arith, fits.room, fits.count.1))

  array_is : r.ports ≡ reserved_ports r ++ replicate (64 - r.count) 0
  array_is = sym (take-append-drop r.count r.ports) ∙ ap (λ l. reserved_ports r ++ l) fits.rest

-- a line of reserved ports gives one value
pub one_reserved : (a b : Reserved) → ReservedFits a → ReservedFits b → reserved_words a ≡ reserved_words b → a ≡ b
one_reserved a b x y h =
    let ports : reserved_ports a ≡ reserved_ports b = same_ports _ _ x.ports y.ports (past_one _ _ _ _ h) in
    let count : a.count ≡ b.count = sym (count_is a x) ∙ ap length ports ∙ count_is b y in
    let filled : List ℕ → ℕ → List ℕ = λ l n. l ++ replicate (64 - n) 0 in
    let array : a.ports ≡ b.ports = array_is a x ∙ ap₂ filled ports count ∙ sym (array_is b y) in
    let P : List ℕ → ℕ → Reserved = λ l n. record { ports = l; count = n } in
    ap₂ P array count

-- one zero fewer behind one place more
rest_more : (array : List ℕ) (n k : ℕ) → drop n array ≡ replicate (suc k) 0 → drop (suc n) array ≡ replicate k 0
rest_more [] zero k e = cc
rest_more (p ∷ ps) zero k e = cc
rest_more [] (suc n) k e = cc
rest_more (p ∷ ps) (suc n) k e = rest_more ps n k e

-- the first words are ports that ascend, which stand in the array with zeros behind them
pub record PortsRead (words : List (List ℕ)) (array : List ℕ) (least n : ℕ) : Type 0 where
  pub room : length array ≡ 64
  pub spelled : take n words ≡ map decimal (take n array)
  pub ascends : Ascends 1 (take n array)
  pub next : next_port 1 (take n array) ≡ least
  pub rest : drop n array ≡ replicate (64 - n) 0

module _ (words : List (List ℕ)) (array : List ℕ) (least n : ℕ) (here : n < length words) (word : List ℕ)
    (is : get_or words n [] ≡ word) (read : PortsRead words array least n) where
  -- one word more
  pub one_more : (port : ℕ) → n < 64 → IsNumber least 65535 word port
      → PortsRead words (set array n port) (port + 1) (n + 1)
  one_more port few number =
      let within : n < length array = omega (arith, read.room) in
      let front : take (n + 1) (set array n port) ≡ take n array ++ port ∷ [] = take_more_set array n port within in
      let above : next_port 1 (take n array) ≤ port = omega (arith, read.next, number.low) in
      let fits : port < 2 ^ 16 = omega (arith, number.high) in
      let one_less : 64 - n ≡ suc (64 - suc n) = omega arith in
      record {
        room = length-set array n port ∙ read.room;
        spelled =
            take_more words n [] here ∙ ap₂ (λ ws w. ws ++ w ∷ []) read.spelled (is ∙ number.spelled)
            ∙ sym (map-append decimal (take n array) (port ∷ [])) ∙ sym (ap (map decimal) front);
        ascends = subst (Ascends 1) (sym front) (Ascends-push 1 (take n array) port read.ascends above fits);
        next = ap (next_port 1) front ∙ next_port-push 1 (take n array) port;
        rest =
            drop-set-lt (n + 1) array n port (omega arith)
            ∙ rw add-one (rest_more array n (64 - suc n) (read.rest ∙ ap (λ k. replicate k 0) one_less));
      }

  -- a word that can't follow is in no line of reserved ports
  pub refused : ((port : ℕ) → IsNumber least 65535 word port → ⊥)
      → (r : Reserved) → HasForm (codes "reserved" ∷ words) (lines.Reserved r) → ⊥
  refused none r h =
      let ports : List ℕ = reserved_ports r in
      let spelled : words ≡ map decimal ports = past_one _ _ _ _ h.0 in
      let longer : n < length ports = omega (arith, ap length spelled, length-map ports decimal) in
      let port : ℕ = get_or ports n 0 in
      let parts : ports ≡ take n ports ++ port ∷ drop (suc n) ports = split_at ports n 0 longer in
      let whole : Ascends 1 ports = ascends_from ports h.1.ports h.1.ascending in
      let all : Ascends 1 (take n ports ++ port ∷ drop (suc n) ports) = subst (Ascends 1) parts whole in
      let front = Ascends-ports 1 _ (omega arith) (Ascends-front 1 (take n ports) _ all) in
      let texts : map decimal (take n ports) ≡ map decimal (take n array) =
      sym (take-map decimal n ports) ∙ ap (take n) (sym spelled) ∙ read.spelled in
      let same : take n ports ≡ take n array =
      same_ports _ _ front (Ascends-ports 1 _ (omega arith) read.ascends) texts in
      let next = Ascends-next 1 (take n ports) port (drop (suc n) ports) all in
      none port (record {
        low = omega (arith, next.0, ap (next_port 1) same, read.next);
        high = omega (arith, next.1);
        short = omega (arith, next.1);
        spelled = sym is ∙ ap (λ ws. get_or ws n []) spelled ∙ get_or-map decimal ports n 0 [] longer;
      })

-- all words are read
pub all_read : (words : List (List ℕ)) (array : List ℕ) (least count : ℕ)
    → length words ≡ count → 1 ≤ count → count ≤ 64 → PortsRead words array least count
    → HasForm (codes "reserved" ∷ words) (lines.Reserved (record { ports = array; count = count }))
all_read words array least count is some few read = (
  ap (λ ws. codes "reserved" ∷ ws) (sym (take_all count words (omega arith)) ∙ read.spelled),
  record {
    count = (some, few);
    ports = Ascends-ports 1 _ (omega arith) read.ascends;
    ascending = Ascends-increasing 1 _ read.ascends;
    room = read.room;
    rest = read.rest;
  },
)

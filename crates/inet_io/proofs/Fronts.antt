-- A text begins with one number alone, and with one address.
use Rattle.std.proofs.Common.{◌≡◌, ℕ, zero, suc, ◌+◌, ◌*◌, ◌/◌, ◌%◌, ◌<◌, ◌≤◌, ◌^◌, ◌==◌, List, [], ◌∷◌, ◌++◌, length, take, drop, get_or, decimal, arith, subst, sym, ap, ◌∙◌, refl, true, false, append_assoc, pow-suc, lt_of_lt_of_le, add-one, lit≤}
use Rattle.std.specs.Prelude.{IfSome, IfNone}
use Rattle.std.specs.Bool.{then_some}
use Rattle.std.specs.Char.{digit_value, is_ascii_digit}
use Rattle.std.specs.Str.Parse.{AllDigits, digits_value}
use Rattle.std.proofs.Math.Nat.{pow-le-pow_right}
use Rattle.std.proofs.Math.Seq.{drop-cons}
use Rattle.std.proofs.lemmas.List.{append-nil, drop_all, take-append-drop, length-take-le}
use Rattle.std.proofs.lemmas.Int.Digits.{digits_more, digits_value-lt}
use Rattle.std.proofs.lemmas.Bool.Decides.{nat_tests}
use Rattle.std.proofs.lemmas.Fmt.{decimal_is_IsNumeral, decimal-digits_value, decimal_digit, decimal_injective, decimal_nonempty, first_decimal, length-decimal-le}
use Rattle.std.proofs.lemmas.Str.Parse.{IsNumeralModel}
use Rattle.inet_io.specs.Texts.{addr_text, IsEndText, IsNumber}
use Rattle.inet_io.proofs.Cuts.{decimal_lacks, one_cut}
use Rattle.inet_io.proofs.EndTexts.{end_text-cut}
use Rattle.inet_io.specs.Fronts.{NoDigit, HasDigits, HasMany, IsPlain, BeginsWith, BeginsWithAddress}

-- a digit by its value
pub is_digit : (b : ℕ) → digit_value b < 10 → is_ascii_digit b ≡ true
is_digit b small = grind (arith, nat_tests)

-- what is a digit and none
both : (b : ℕ) → digit_value b < 10 → is_ascii_digit b ≡ false → ⊥
both b small none = let all = is_digit b small in cc

-- where digits end, they end in one way
pub one_front : (xs ys r s : List ℕ) → AllDigits 10 xs → AllDigits 10 ys → NoDigit r → NoDigit s → xs ++ r ≡ ys ++ s → (xs ≡ ys) × (r ≡ s)
one_front [] [] r s dx dy er es e = (refl, e)
one_front [] (y ∷ ys) [] s dx dy er es e = absurd (omega (arith, ap length e))
one_front [] (y ∷ ys) (b ∷ r) s dx dy er es e =
    let same : b ≡ y = ap (λ l. get_or l 0 0) e in
    absurd (both y dy.0 (subst (λ c. is_ascii_digit c ≡ false) same er))
one_front (x ∷ xs) [] r [] dx dy er es e = absurd (omega (arith, ap length e))
one_front (x ∷ xs) [] r (b ∷ s) dx dy er es e =
    let same : x ≡ b = ap (λ l. get_or l 0 0) e in
    absurd (both x dx.0 (subst (λ c. is_ascii_digit c ≡ false) (sym same) es))
one_front (x ∷ xs) (y ∷ ys) r s dx dy er es e =
    let first : x ≡ y = ap (λ l. get_or l 0 0) e in
    let rest = one_front xs ys r s dx.1 dy.1 er es (ap (drop 1) e) in
    ((λ i. first i ∷ rest.0 i), rest.1)

-- digits up to a byte that is none
pub digits_end : (text : List ℕ) (n count : ℕ) → count < length text → count ≤ 10 → AllDigits 10 (take count text) → n ≡ digits_value 10 (take count text) → is_ascii_digit (get_or text count 0) ≡ false → HasDigits text n count
digits_end text n count inside few digits value none = record {
  within = omega (arith, inside);
  few = few;
  digits = digits;
  value = value;
  ends = subst NoDigit (sym (drop-cons text count 0 inside)) none;
}

-- a text of digits alone
pub digits_alone : (text : List ℕ) (n count : ℕ) → length text ≤ count → count ≤ length text → count ≤ 10 → AllDigits 10 (take count text) → n ≡ digits_value 10 (take count text) → HasDigits text n (length text)
digits_alone text n count all within few digits value =
    let same : count ≡ length text = omega (arith, all, within) in
    record {
      within = omega arith;
      few = subst (λ k. k ≤ 10) same few;
      digits = subst (λ k. AllDigits 10 (take k text)) same digits;
      value = value ∙ ap (λ k. digits_value 10 (take k text)) same;
      ends = subst NoDigit (sym (drop_all (length text) text (omega arith))) tt;
    }

-- the power of ten that one digit more stays below
pub one_digit_more : (n d k : ℕ) → n < 10 ^ k → d < 10 → n * 10 + d < 10 ^ (k + 1)
one_digit_more n d k small digit = subst (λ j. n * 10 + d < 10 ^ j) (sym (add-one k)) (omega (arith, pow-suc 10 k, small, digit))

-- ten digits and one more
pub many_digits : (text : List ℕ) (count : ℕ) → count ≡ 10 → count < length text → AllDigits 10 (take count text) → digit_value (get_or text count 0) < 10 → HasMany text
many_digits text count is inside digits small =
    record {
      long = omega (arith, is, inside);
      digits = subst (λ k. AllDigits 10 (take (k + 1) text)) is (digits_more 10 text count inside digits small);
    }

-- more digits than a number has aren't followed by none
pub no_more : (xs r : List ℕ) (k : ℕ) → NoDigit r → length xs < k → k ≤ length (xs ++ r) → AllDigits 10 (take k (xs ++ r)) → ⊥
no_more xs r zero ends past within digits = omega arith
no_more [] [] (suc k) ends past within digits = omega arith
no_more [] (b ∷ r) (suc k) ends past within digits = both b digits.0 ends
no_more (x ∷ xs) r (suc k) ends past within digits = no_more xs r k ends (omega arith) (omega arith) digits.1

-- a number's text has ten digits at most
few_digits : (n : ℕ) → n < 10 ^ 10 → length (decimal n) ≤ 10
few_digits n short = length-decimal-le 10 n (omega arith) short (omega (arith, short))

-- a text of more than ten digits begins with no number
pub many_is_none : (text : List ℕ) (most n : ℕ) (rest : List ℕ) → HasMany text → BeginsWith most text n rest → ⊥
many_is_none text most n rest many h =
    no_more (decimal n) rest 11 h.ends (omega (arith, few_digits n h.short)) (subst (λ t. 11 ≤ length t) h.spelled many.long)
    (subst (λ t. AllDigits 10 (take 11 t)) h.spelled many.digits)

-- a number's text is plain
pub decimal_plain : (n : ℕ) → n < 2 ^ 64 → IsPlain (decimal n)
decimal_plain zero small = let one = ap length (decimal_digit 0 (omega arith)) in (omega (arith, one), λ e. one)
decimal_plain (suc n) small =
    (decimal_nonempty (suc n) small, λ e. omega (arith, e, first_decimal (suc n) (omega arith) small))

-- what ten digits spell
value_below : (ds : List ℕ) → AllDigits 10 ds → length ds ≤ 10 → digits_value 10 ds < 10 ^ 10
value_below ds digits few = lt_of_lt_of_le (digits_value-lt 10 ds digits) (pow-le-pow_right (omega arith) few)

-- digits as the numerals that std speaks of
own : IsNumeralModel (AllDigits 10) (digits_value 10)
own = record { to = λ ds d. d; from = λ ds d. d; same = λ ds d. refl }

-- the digits at the front are those of the number
module _ (text : List ℕ) (n count most m : ℕ) (rest : List ℕ) (digits : HasDigits text n count) (h : BeginsWith most text m rest) where
  small : m < 2 ^ 64
  small = omega (arith, h.short)

  pub one_number : (take count text ≡ decimal m) × (drop count text ≡ rest)
  one_number =
      one_front (take count text) (decimal m) (drop count text) rest digits.digits (decimal_is_IsNumeral m small).0.1 digits.ends h.ends
      (take-append-drop count text ∙ h.spelled)

  pub same_value : n ≡ m
  same_value = digits.value ∙ ap (digits_value 10) one_number.0 ∙ (decimal_is_IsNumeral m small).1

  -- and they are plain
  pub plain_front : IsPlain (take count text)
  plain_front = subst IsPlain (sym one_number.0) (decimal_plain m small)

-- digits that are plain are a number's text
pub plain_number : (text : List ℕ) (n count most : ℕ) → HasDigits text n count → IsPlain (take count text) → n ≤ most → BeginsWith most text n (drop count text)
plain_number text n count most digits plain high =
    let value = digits.value in
    let below : digits_value 10 (take count text) < 10 ^ 10 = value_below (take count text) digits.digits (omega (arith, length-take-le count text digits.within, digits.few)) in
    let spelled : decimal (digits_value 10 (take count text)) ≡ take count text =
    decimal-digits_value own (take count text) digits.digits plain.0 plain.1 (omega (arith, below)) in
    record {
      high = high;
      short = omega (arith, value, below);
      spelled = sym (take-append-drop count text) ∙ ap (λ l. l ++ drop count text) (sym spelled ∙ ap decimal (sym value));
      ends = digits.ends;
    }

-- a text begins with one number alone
pub one_begin : (text : List ℕ) (most least n m : ℕ) (rest other : List ℕ) → BeginsWith most text n rest → BeginsWith least text m other → rest ≡ other
one_begin text most least n m rest other h k =
    (one_front (decimal n) (decimal m) rest other (decimal_is_IsNumeral n (omega (arith, h.short))).0.1 (decimal_is_IsNumeral m (omega (arith, k.short))).0.1 h.ends k.ends
    (sym h.spelled ∙ k.spelled)).1

-- and its digits spell that one
pub same_number : (text : List ℕ) (most least n m : ℕ) (rest other : List ℕ) → BeginsWith most text n rest → BeginsWith least text m other → n ≡ m
same_number text most least n m rest other h k =
    let same = (one_front (decimal n) (decimal m) rest other (decimal_is_IsNumeral n (omega (arith, h.short))).0.1 (decimal_is_IsNumeral m (omega (arith, k.short))).0.1 h.ends k.ends
    (sym h.spelled ∙ k.spelled)).0 in
    decimal_injective n m (omega (arith, h.short)) (omega (arith, k.short)) same

-- a list of no element
pub no_length : (xs : List ℕ) → true ≡ (length xs == 0) → xs ≡ []
no_length [] e = refl
no_length (x ∷ xs) e = grind (arith, nat_tests)

-- a number alone begins its text
pub number_begins : (least most : ℕ) (text : List ℕ) (n : ℕ) → IsNumber least most text n → BeginsWith most text n []
number_begins least most text n h = record { high = h.high; short = h.short; spelled = h.spelled ∙ sym (append-nil (decimal n)); ends = tt }

-- and is what it begins with, where nothing stands behind
pub begins_number : (least most : ℕ) (text : List ℕ) (n : ℕ) (rest : List ℕ) → rest ≡ [] → least ≤ n → BeginsWith most text n rest → IsNumber least most text n
begins_number least most text n rest none low h =
    record { low = low; high = h.high; short = h.short; spelled = h.spelled ∙ ap (λ r. decimal n ++ r) none ∙ append-nil (decimal n) }

-- a number to 255 and a dot
pub octet_begins : (text : List ℕ) (n : ℕ) (rest : List ℕ) → n < 256 → text ≡ decimal n ++ 46 ∷ rest → BeginsWith 255 text n (46 ∷ rest)
octet_begins text n rest small spelled = record { high = omega (arith, small); short = omega (arith, small); spelled = spelled; ends = refl }

-- what stands behind the dot
pub octet_rest : (text : List ℕ) (n m : ℕ) (rest other : List ℕ) → n < 256 → m < 256 → text ≡ decimal n ++ 46 ∷ rest → text ≡ decimal m ++ 46 ∷ other → rest ≡ other
octet_rest text n m rest other fn fm h k =
    (one_cut 46 (decimal n) rest (decimal m) other (decimal_lacks 46 n (lit≤ tt) (omega (arith, fn))) (decimal_lacks 46 m (lit≤ tt) (omega (arith, fm)))
    (sym h ∙ k)).1

-- an address's text by its four numbers
front_of_address : (addr : ℕ) (rest : List ℕ) → addr_text addr ++ rest ≡ decimal (addr / 2 ^ 24) ++ 46 ∷ (decimal (addr / 2 ^ 16 % 256) ++ 46 ∷ (decimal (addr / 2 ^ 8 % 256) ++ 46 ∷ (decimal (addr % 256) ++ rest)))
front_of_address addr rest = simp append_assoc

-- four numbers make an address
pub address_of : (text t1 t2 t3 : List ℕ) (a b c d : ℕ) (rest : List ℕ) → (a < 256) × (text ≡ decimal a ++ 46 ∷ t1) → (b < 256) × (t1 ≡ decimal b ++ 46 ∷ t2) → (c < 256) × (t2 ≡ decimal c ++ 46 ∷ t3) → BeginsWith 255 t3 d rest → BeginsWithAddress text (a * 16777216 + b * 65536 + c * 256 + d) rest
address_of text t1 t2 t3 a b c d rest ha hb hc hd =
    let n : ℕ = a * 16777216 + b * 65536 + c * 256 + d in
    let fd = hd.high in
    let is_a : a ≡ n / 2 ^ 24 = omega (arith, ha.0, hb.0, hc.0, fd) in
    let is_b : b ≡ n / 2 ^ 16 % 256 = omega (arith, ha.0, hb.0, hc.0, fd) in
    let is_c : c ≡ n / 2 ^ 8 % 256 = omega (arith, ha.0, hb.0, hc.0, fd) in
    let is_d : d ≡ n % 256 = omega (arith, ha.0, hb.0, hc.0, fd) in
    let last : t3 ≡ decimal (n % 256) ++ rest = hd.spelled ∙ ap (λ k. decimal k ++ rest) is_d in
    let third : t2 ≡ decimal (n / 2 ^ 8 % 256) ++ 46 ∷ (decimal (n % 256) ++ rest) = hc.1 ∙ (λ i. decimal (is_c i) ++ 46 ∷ last i) in
    let second : t1 ≡ decimal (n / 2 ^ 16 % 256) ++ 46 ∷ (decimal (n / 2 ^ 8 % 256) ++ 46 ∷ (decimal (n % 256) ++ rest)) = hb.1 ∙ (λ i. decimal (is_b i) ++ 46 ∷ third i) in
    record {
      fits = omega (arith, ha.0, hb.0, hc.0, fd);
      spelled = ha.1 ∙ (λ i. decimal (is_a i) ++ 46 ∷ second i) ∙ sym (front_of_address n rest);
      ends = hd.ends;
    }

-- the four numbers of an address at the front of a text
module _ (text : List ℕ) (addr : ℕ) (rest : List ℕ) (h : BeginsWithAddress text addr rest) where
  abbrev pub third_part : List ℕ
  third_part = decimal (addr / 2 ^ 8 % 256) ++ 46 ∷ (decimal (addr % 256) ++ rest)

  abbrev pub second_part : List ℕ
  second_part = decimal (addr / 2 ^ 16 % 256) ++ 46 ∷ third_part

  pub first_octet : (addr / 2 ^ 24 < 256) × (text ≡ decimal (addr / 2 ^ 24) ++ 46 ∷ second_part)
  first_octet = (omega (arith, h.fits), h.spelled ∙ front_of_address addr rest)

  -- behind the first number
  pub second_octet : (t1 : List ℕ) (a : ℕ) → (a < 256) × (text ≡ decimal a ++ 46 ∷ t1) → (addr / 2 ^ 16 % 256 < 256) × (t1 ≡ decimal (addr / 2 ^ 16 % 256) ++ 46 ∷ third_part)
  second_octet t1 a ha = (omega arith, octet_rest text a (addr / 2 ^ 24) t1 second_part ha.0 first_octet.0 ha.1 first_octet.1)

  -- behind the second
  pub third_octet : (t1 t2 : List ℕ) (a b : ℕ) → (a < 256) × (text ≡ decimal a ++ 46 ∷ t1) → (b < 256) × (t1 ≡ decimal b ++ 46 ∷ t2) → (addr / 2 ^ 8 % 256 < 256) × (t2 ≡ decimal (addr / 2 ^ 8 % 256) ++ 46 ∷ (decimal (addr % 256) ++ rest))
  third_octet t1 t2 a b ha hb =
      let second = second_octet t1 a ha in
      (omega arith, octet_rest t1 b (addr / 2 ^ 16 % 256) t2 third_part hb.0 second.0 hb.1 second.1)

  -- behind the third
  pub fourth_octet : (t1 t2 t3 : List ℕ) (a b c : ℕ) → (a < 256) × (text ≡ decimal a ++ 46 ∷ t1) → (b < 256) × (t1 ≡ decimal b ++ 46 ∷ t2) → (c < 256) × (t2 ≡ decimal c ++ 46 ∷ t3) → BeginsWith 255 t3 (addr % 256) rest
  fourth_octet t1 t2 t3 a b c ha hb hc =
      let third = third_octet t1 t2 a b ha hb in
      record {
        high = omega arith;
        short = omega arith;
        spelled = octet_rest t2 c (addr / 2 ^ 8 % 256) t3 (decimal (addr % 256) ++ rest) hc.0 third.0 hc.1 third.1;
        ends = h.ends;
      }

-- what stands behind the address that a text begins with
pub one_address : (text : List ℕ) (a b : ℕ) (rest other : List ℕ) → BeginsWithAddress text a rest → BeginsWithAddress text b other → rest ≡ other
one_address text a b rest other h k =
    let last : List ℕ = decimal (a % 256) ++ rest in
    let third : List ℕ = decimal (a / 2 ^ 8 % 256) ++ 46 ∷ last in
    let second : List ℕ = decimal (a / 2 ^ 16 % 256) ++ 46 ∷ third in
    let ends : BeginsWith 255 last (b % 256) other =
    fourth_octet text b other k second third last (a / 2 ^ 24) (a / 2 ^ 16 % 256) (a / 2 ^ 8 % 256) (first_octet text a rest h) (omega arith, refl) (omega arith, refl) in
    let own : BeginsWith 255 last (a % 256) rest = record { high = omega arith; short = omega arith; spelled = refl; ends = h.ends } in
    one_begin last 255 255 (a % 256) (b % 256) rest other own ends

-- an address alone begins its text
pub address_begins : (text : List ℕ) (addr : ℕ) → addr < 2 ^ 32 → text ≡ addr_text addr → BeginsWithAddress text addr []
address_begins text addr fits spelled = record { fits = fits; spelled = spelled ∙ sym (append-nil (addr_text addr)); ends = tt }

-- and so does that of an end
pub end_begins : (least : ℕ) (text : List ℕ) (addr port : ℕ) → IsEndText least text addr port → BeginsWithAddress text addr (58 ∷ decimal port)
end_begins least text addr port h = record { fits = h.addr_fits; spelled = h.spelled ∙ end_text-cut addr port; ends = refl }

-- an address with a colon and a port behind it is an end
pub begins_end : (least : ℕ) (text : List ℕ) (addr : ℕ) (rest behind : List ℕ) (port : ℕ) → BeginsWithAddress text addr rest → rest ≡ 58 ∷ behind → IsNumber least 65535 behind port → IsEndText least text addr port
begins_end least text addr rest behind port h colon number = record {
  spelled = h.spelled ∙ (λ i. addr_text addr ++ colon i) ∙ ap (λ b. addr_text addr ++ 58 ∷ b) number.spelled ∙ sym (end_text-cut addr port);
  addr_fits = h.fits;
  low = number.low;
  high = omega (arith, number.high);
}

-- the port of an end is a number
pub port_of : (least : ℕ) (text : List ℕ) (addr port a : ℕ) (rest behind : List ℕ) → IsEndText least text addr port → BeginsWithAddress text a rest → rest ≡ 58 ∷ behind → IsNumber least 65535 behind port
port_of least text addr port a rest behind h k colon = record {
  low = h.low;
  high = omega (arith, h.high);
  short = omega (arith, h.high);
  spelled = ap (drop 1) (sym colon ∙ one_address text a addr rest (58 ∷ decimal port) k (end_begins least text addr port h));
}

-- a list of some
some_length : (b : ℕ) (rest : List ℕ) → (length (b ∷ rest) == 0) ≡ false
some_length b rest = grind (arith, nat_tests)

-- a text is the address that it begins with, where nothing stands behind
pub alone_some : (text : List ℕ) (addr : ℕ) (rest : List ℕ) → BeginsWithAddress text addr rest → IfSome (then_some (length rest == 0) addr) (λ a. text ≡ addr_text a)
alone_some text addr [] h = h.spelled ∙ append-nil (addr_text addr)
alone_some text addr (b ∷ rest) h = rw (some_length b rest) tt

-- and else no address
pub alone_none : (text : List ℕ) (addr : ℕ) (rest : List ℕ) → BeginsWithAddress text addr rest → IfNone (then_some (length rest == 0) addr) ((a : ℕ) → a < 2 ^ 32 → text ≡ addr_text a → ⊥)
alone_none text addr [] h = tt
alone_none text addr (b ∷ rest) h = rw (some_length b rest) (λ a fits spelled.
    let same = one_address text addr a (b ∷ rest) [] h (address_begins text a fits spelled) in omega (arith, ap length same))

use Rattle.std.proofs.Common.{◌≡◌, ◌∙◌, List, Ok, inl, ap, refl, sym, subst, map, option_map, string_bytes, arith}
use Rattle.std.proofs.lemmas.Bool.{false≢true}
use Rattle.std.specs.Str.Parse.{ParsesUnsigned, ExplainsUnsignedError, HasUnsignedDigitsIfOk}
use Rattle.clap.specs.Words.{Text}
use Rattle.inet_tool.specs.Words.{IsMake, IsRace}
use Rattle.inet_tool.proofs.Asks.{makes_in_range, races_in_range}
use Rattle.inet_tool.proofs.Read.{count_given, given_number, lookers_given, make_met, one_ask, parsed, passes_given, plain_met, race_met, read_given, seed_given}
use Rattle.inet_tool.proofs.words.ask_of.Goals as goal

pub unwrap-lookers-requires : goal.unwrap-lookers-requires
unwrap-lookers-requires c =
    let words : List Text = map string_bytes c.args.words.now in
    let of_words = parsed _ words c.in-Ok-try_get_matches_from.matches c.in-Ok.ensures c.in-Ok-try_get_matches_from.ensures.kinds c.in-Ok-try_get_matches_from.ensures.matches in
    let race = race_met words c.in-Ok-try_get_matches_from.matches of_words.0 of_words.1 c.in-Some.numbers.now (c.in-Some.ensures.found.0 refl) c.in-Some.ensures.rows in
    let lookers = lookers_given c.in-Some.numbers.now race.1 in
    let lookers_is = read_given _ (λ bs r. ParsesUnsigned 32 10 bs r × ExplainsUnsignedError 10 bs r × HasUnsignedDigitsIfOk bs r) _ _ _ _ _ c.get_one.result
    lookers.1 (omega arith) c.get_one.ensures.value (λ u x h. h.0) in
    rw lookers_is refl

pub unwrap-passes-requires : goal.unwrap-passes-requires
unwrap-passes-requires c =
    let words : List Text = map string_bytes c.args.words.now in
    let of_words = parsed _ words c.in-Ok-try_get_matches_from.matches c.in-Ok.ensures c.in-Ok-try_get_matches_from.ensures.kinds c.in-Ok-try_get_matches_from.ensures.matches in
    let race = race_met words c.in-Ok-try_get_matches_from.matches of_words.0 of_words.1 c.in-Some.numbers.now (c.in-Some.ensures.found.0 refl) c.in-Some.ensures.rows in
    let passes = passes_given c.in-Some.numbers.now race.1 in
    let passes_is = read_given _ (λ bs r. ParsesUnsigned 32 10 bs r × ExplainsUnsignedError 10 bs r × HasUnsignedDigitsIfOk bs r) _ _ _ _ _ c.get_one-in-Some.result
    passes.1 (omega arith) c.get_one-in-Some.ensures.value (λ u x h. h.0) in
    rw passes_is refl

pub returns-in-Some-clause-asks : goal.returns-in-Some-clause-asks
returns-in-Some-clause-asks c =
    let words : List Text = map string_bytes c.args.words.now in
    let of_words = parsed _ words c.in-Ok-try_get_matches_from.matches c.in-Ok.ensures c.in-Ok-try_get_matches_from.ensures.kinds c.in-Ok-try_get_matches_from.ensures.matches in
    let race = race_met words c.in-Ok-try_get_matches_from.matches of_words.0 of_words.1 c.in-Some.numbers.now (c.in-Some.ensures.found.0 refl) c.in-Some.ensures.rows in
    let lookers = lookers_given c.in-Some.numbers.now race.1 in
    let passes = passes_given c.in-Some.numbers.now race.1 in
    let lookers_is = read_given _ (λ bs r. ParsesUnsigned 32 10 bs r × ExplainsUnsignedError 10 bs r × HasUnsignedDigitsIfOk bs r) _ _ _ _ _ c.get_one.result
    lookers.1 (omega arith) c.get_one.ensures.value (λ u x h. h.0) in
    let passes_is = read_given _ (λ bs r. ParsesUnsigned 32 10 bs r × ExplainsUnsignedError 10 bs r × HasUnsignedDigitsIfOk bs r) _ _ _ _ _ c.get_one-in-Some.result
    passes.1 (omega arith) c.get_one-in-Some.ensures.value (λ u x h. h.0) in (
      of_words.0,
      ap (option_map (λ met. met.0)) race.0,
      given_number _ _ _ _ words c.in-Some.numbers.now lookers.0 lookers.1 race.0 ∙ sym lookers_is ∙ c.unwrap-lookers.ensures,
      given_number _ _ _ _ words c.in-Some.numbers.now passes.0 passes.1 race.0 ∙ sym passes_is ∙ c.unwrap-passes.ensures,
    )

pub returns-in-Some-clause-race_in_range : goal.returns-in-Some-clause-race_in_range
returns-in-Some-clause-race_in_range c = λ n p is.
    let words : List Text = map string_bytes c.args.words.now in
    let first : c.unwrap-lookers.result ≡ n = cc in
    let second : c.unwrap-passes.result ≡ p = cc in
    races_in_range words n p (subst (λ m. IsRace words m p) first (subst (λ m. IsRace words c.unwrap-lookers.result m) second (returns-in-Some-clause-asks c)))

pub returns-in-Some-clause-found : goal.returns-in-Some-clause-found
returns-in-Some-clause-found c = λ ask asks. inl (ap Ok (one_ask (map string_bytes c.args.words.now) _ ask (returns-in-Some-clause-asks c) asks))

pub returns-in_default-subcommand_matches-2-clause-asks : goal.returns-in_default-subcommand_matches-2-clause-asks
returns-in_default-subcommand_matches-2-clause-asks c =
    let words : List Text = map string_bytes c.args.words.now in
    let of_words = parsed _ words c.in-Ok-try_get_matches_from.matches c.in-Ok.ensures c.in-Ok-try_get_matches_from.ensures.kinds c.in-Ok-try_get_matches_from.ensures.matches in
    plain_met words c.in-Ok-try_get_matches_from.matches of_words.0 of_words.1
    (λ is. false≢true (c.in_default-subcommand_matches-2.ensures.found.1 is))
    (λ is. false≢true (c.in_default-subcommand_matches.ensures.found.1 is))
    c.without_numbers.result c.without_numbers.ensures

pub returns-in_default-subcommand_matches-2-clause-found : goal.returns-in_default-subcommand_matches-2-clause-found
returns-in_default-subcommand_matches-2-clause-found c =
    λ ask asks. inl (ap Ok (one_ask (map string_bytes c.args.words.now) _ ask (returns-in_default-subcommand_matches-2-clause-asks c) asks))

pub unwrap-seed-requires : goal.unwrap-seed-requires
unwrap-seed-requires c =
    let words : List Text = map string_bytes c.args.words.now in
    let of_words = parsed _ words c.in-Ok-try_get_matches_from.matches c.in-Ok.ensures c.in-Ok-try_get_matches_from.ensures.kinds c.in-Ok-try_get_matches_from.ensures.matches in
    let make = make_met words c.in-Ok-try_get_matches_from.matches of_words.0 of_words.1 c.in-Some-subcommand_matches.numbers.now (c.in-Some-subcommand_matches.ensures.found.0 refl) c.in-Some-subcommand_matches.ensures.rows in
    let seed = seed_given c.in-Some-subcommand_matches.numbers.now make.1 in
    let seed_is = read_given _ (λ bs r. ParsesUnsigned 32 10 bs r × ExplainsUnsignedError 10 bs r × HasUnsignedDigitsIfOk bs r) _ _ _ _ _ c.get_one-2.result
    seed.1 (omega arith) c.get_one-2.ensures.value (λ u x h. h.0) in
    rw seed_is refl

pub unwrap-count-requires : goal.unwrap-count-requires
unwrap-count-requires c =
    let words : List Text = map string_bytes c.args.words.now in
    let of_words = parsed _ words c.in-Ok-try_get_matches_from.matches c.in-Ok.ensures c.in-Ok-try_get_matches_from.ensures.kinds c.in-Ok-try_get_matches_from.ensures.matches in
    let make = make_met words c.in-Ok-try_get_matches_from.matches of_words.0 of_words.1 c.in-Some-subcommand_matches.numbers.now (c.in-Some-subcommand_matches.ensures.found.0 refl) c.in-Some-subcommand_matches.ensures.rows in
    let count = count_given c.in-Some-subcommand_matches.numbers.now make.1 in
    let count_is = read_given _ (λ bs r. ParsesUnsigned 32 10 bs r × ExplainsUnsignedError 10 bs r × HasUnsignedDigitsIfOk bs r) _ _ _ _ _ c.get_one-3.result
    count.1 (omega arith) c.get_one-3.ensures.value (λ u x h. h.0) in
    rw count_is refl

pub returns-clause-asks : goal.returns-clause-asks
returns-clause-asks c =
    let words : List Text = map string_bytes c.args.words.now in
    let of_words = parsed _ words c.in-Ok-try_get_matches_from.matches c.in-Ok.ensures c.in-Ok-try_get_matches_from.ensures.kinds c.in-Ok-try_get_matches_from.ensures.matches in
    let make = make_met words c.in-Ok-try_get_matches_from.matches of_words.0 of_words.1 c.in-Some-subcommand_matches.numbers.now (c.in-Some-subcommand_matches.ensures.found.0 refl) c.in-Some-subcommand_matches.ensures.rows in
    let seed = seed_given c.in-Some-subcommand_matches.numbers.now make.1 in
    let count = count_given c.in-Some-subcommand_matches.numbers.now make.1 in
    let seed_is = read_given _ (λ bs r. ParsesUnsigned 32 10 bs r × ExplainsUnsignedError 10 bs r × HasUnsignedDigitsIfOk bs r) _ _ _ _ _ c.get_one-2.result
    seed.1 (omega arith) c.get_one-2.ensures.value (λ u x h. h.0) in
    let count_is = read_given _ (λ bs r. ParsesUnsigned 32 10 bs r × ExplainsUnsignedError 10 bs r × HasUnsignedDigitsIfOk bs r) _ _ _ _ _ c.get_one-3.result
    count.1 (omega arith) c.get_one-3.ensures.value (λ u x h. h.0) in (
      of_words.0,
      ap (option_map (λ met. met.0)) make.0,
      given_number _ _ _ _ words c.in-Some-subcommand_matches.numbers.now seed.0 seed.1 make.0 ∙ sym seed_is ∙ c.unwrap-seed.ensures,
      given_number _ _ _ _ words c.in-Some-subcommand_matches.numbers.now count.0 count.1 make.0 ∙ sym count_is ∙ c.unwrap-count.ensures,
    )

pub returns-clause-in_range : goal.returns-clause-in_range
returns-clause-in_range c = λ seed count is.
    let words : List Text = map string_bytes c.args.words.now in
    let first : c.unwrap-seed.result ≡ seed = cc in
    let second : c.unwrap-count.result ≡ count = cc in
    (makes_in_range words seed count (subst (λ n. IsMake words n count) first (subst (λ n. IsMake words c.unwrap-seed.result n) second (returns-clause-asks c)))).1

pub returns-clause-found : goal.returns-clause-found
returns-clause-found c = λ ask asks. inl (ap Ok (one_ask (map string_bytes c.args.words.now) _ ask (returns-clause-asks c) asks))

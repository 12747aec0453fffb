-- The words ask for one command or for none.
use Rattle.std.proofs.Common.{◌≡◌, map, string_bytes, refl}
use Rattle.why.proofs.Asking.{asked_once}
use Rattle.why.proofs.explained.Goals as goal

pub returns-in-Some : goal.returns-in-Some
returns-in-Some g c =
    record {
      usage = λ none. absurd (none c.in-Some.input c.in-Some.ensures.some);
      told = λ input asks end.
          let e : c.in-Some.input ≡ input = asked_once (map string_bytes c.args.words.now) c.in-Some.input input c.in-Some.ensures.some asks in
          rw (← e) (c.serve.ensures.told end);
      answers = λ input asks.
          let e : c.in-Some.input ≡ input = asked_once (map string_bytes c.args.words.now) c.in-Some.input input c.in-Some.ensures.some asks in
          rw (← e) c.serve.ensures.verdict;
    }

pub returns-in-None : goal.returns-in-None
returns-in-None g c =
    record {
      usage = λ none. refl;
      told = λ input asks end. absurd (c.in-None.ensures.none input asks);
      answers = λ input asks. absurd (c.in-None.ensures.none input asks);
    }

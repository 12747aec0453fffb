use Rattle.std.proofs.Common.{◌≡◌, ◌%◌, ◌++◌, length, take, ap, sym, ◌∙◌, arith}
use Rattle.std.proofs.lemmas.List.{take-append-drop}
use Rattle.capture_reader.proofs.Wholes.{told, is_there, whole_is, number_in}
use Rattle.capture_reader.proofs.block.next_whole.Goals as goal
use Rattle.capture_reader.proofs.block.next_whole.Goals.{then-length-lt-BLOCK-via-then-length-lt-BLOCK, then-length-lt-BLOCK-via-else-length-lt-BLOCK+then-length-ne0, then-length-lt-BLOCK-via-else-length-lt-BLOCK+else-length-ne0+then-bytes-length}

pub returns-then-length-lt-BLOCK-clause-none : goal.returns-then-length-lt-BLOCK-clause-none
returns-then-length-lt-BLOCK-clause-none c = λ whole rest e w.
    let count = c.u32_at-length.ensures ∙ told c.args.order c.args.bytes.now whole rest e w in
    let there = is_there c.args.order c.args.bytes.now whole rest e w in
    elim c.then-length-lt-BLOCK.branch [
      | then-length-lt-BLOCK-via-then-length-lt-BLOCK b ↦ omega (arith, count, w.least)
      | then-length-lt-BLOCK-via-else-length-lt-BLOCK+then-length-ne0 b ↦ b.if-length-ne0.true (ap (λ n. n % 4) count ∙ w.fours)
      | then-length-lt-BLOCK-via-else-length-lt-BLOCK+else-length-ne0+then-bytes-length b ↦ omega (arith, there.1, c.u32_at-length.ensures)
    ]

pub returns-then-u32_at-length-clause-none : goal.returns-then-u32_at-length-clause-none
returns-then-u32_at-length-clause-none c = λ whole rest e w.
    let count = c.u32_at-length.ensures ∙ told c.args.order c.args.bytes.now whole rest e w in
    let same : c.split_at.result.0.now ≡ whole =
    c.split_at.ensures.front ∙ ap (λ n. take n c.args.bytes.now) c.u32_at-length.ensures ∙ whole_is c.args.order c.args.bytes.now whole rest e w in
    let again = w.back in
    let read = c.u32_at.ensures in
    c.if-u32_at-length.true (cc)

pub returns-clause-some : goal.returns-clause-some
returns-clause-some c =
    let bytes = c.args.bytes.now in
    let n = c.u32_at-length.result in
    let whole = c.split_at.result.0.now in
    let rest = c.split_at.result.1.now in
    let parts : bytes ≡ whole ++ rest = (let halves = take-append-drop n bytes in let front = c.split_at.ensures.front in let back = c.split_at.ensures.back in cc) in
    let count : length whole ≡ n = c.split_at.ensures.front_len in
    let read = c.u32_at.ensures in (
      parts,
      record {
        least = omega (arith, count);
        fours = ap (λ m. m % 4) count ∙ c.if-length-ne0.false;
        front = sym (number_in c.args.order 4 4 bytes whole rest parts (omega (arith, count))) ∙ sym c.u32_at-length.ensures ∙ sym count;
        back = cc;
      },
    )

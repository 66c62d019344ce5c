use Rattle.std.proofs.Common.{◌≡◌, ◌∙◌, ℕ, ◌+◌, ◌-◌, ◌*◌, ◌/◌, ◌^◌, ◌<◌, ◌≤◌, List, ◌++◌, length, take, drop, rules, refl, ap, sym, arith}
use Rattle.std.specs.Int.{w32, to_le_bytes}
use Rattle.std.proofs.lemmas.List.{take_all, drop-drop}
use Rattle.std.proofs.lemmas.Slice.{take-put_mid, drop-put_mid, overwrites}
use borrow.Rule.Slice.PartMut.{put_mid}
use Rattle.chacha_stream.specs.Keystream.{keystream, keystream_word, first_word, xor_bytes}
use Rattle.chacha_stream.proofs.Words.{next_at, more_done}
use Rattle.chacha_stream.proofs.stream.xor_stream.Goals as goal

pub words-init : goal.words-init
unfolding xor_bytes
words-init c = record {
  at = c.generator-words.ensures.value;
  done = refl;
  rest = refl;
}

pub words-preserved : goal.words-preserved
words-preserved c =
    let K : List ℕ = c.args.key.now in
    let N : List ℕ = c.args.nonce.now in
    let C : ℕ = c.args.counter in
    let i : ℕ = c.words.number in
    let n : ℕ = 4 * i + 4 - 4 * i in
    let four : n ≡ 4 = omega arith in
    let end : 4 * (i + 1) ≡ 4 * i + n = omega arith in
    let room : first_word N C + i < 2 ^ 68 = omega (arith, c.generator-words.ensures.bound) in
    let step = next_at K N C i c.next_word.result c.words.words c.next_word.new.self c.words.invariant.at c.next_word.ensures room in
    let piece : List ℕ = c.xor_word.new.bytes in
    let piece_is : piece ≡ xor_bytes (take n (drop (4 * i) c.words.bytes)) (to_le_bytes w32 (keystream_word K N C i)) =
    c.xor_word.ensures ∙ ap (λ (w : List ℕ). xor_bytes (take n (drop (4 * i) c.words.bytes)) w) (c.to_le_bytes-word.ensures ∙ ap (λ (x : ℕ). to_le_bytes w32 x) step.0) in
    let long : length piece ≡ n = omega arith in
    let more = more_done K N C i n c.args.bytes.now c.words.bytes piece c.words.invariant.done c.words.invariant.rest piece_is (omega arith) (omega arith) in
    record {
      at = step.1;
      done =
          take-put_mid (4 * i) n c.words.bytes piece (4 * (i + 1)) (omega arith) (omega arith)
          ∙ more
          ∙ ap (λ (m : ℕ). xor_bytes (take m c.args.bytes.now) (keystream K N C 0 m)) (sym end);
      rest =
          drop-put_mid (4 * i) n c.words.bytes piece (4 * (i + 1)) (omega arith) (omega arith) long
          ∙ ap (λ (m : ℕ). drop m c.words.bytes) end
          ∙ sym (drop-drop n (4 * i) c.words.bytes)
          ∙ ap (λ (r : List ℕ). drop n r) c.words.invariant.rest
          ∙ drop-drop n (4 * i) c.args.bytes.now
          ∙ ap (λ (m : ℕ). drop m c.args.bytes.now) (sym end);
    }

pub returns-then-bytes-gt0 : goal.returns-then-bytes-gt0
returns-then-bytes-gt0 c =
    let K : List ℕ = c.args.key.now in
    let N : List ℕ = c.args.nonce.now in
    let C : ℕ = c.args.counter in
    let all : ℕ = length c.args.bytes.now in
    let i : ℕ = c.words.number in
    let whole : i ≡ all / 4 = omega arith in
    let n : ℕ = length c.words.bytes - 4 * i in
    let end : 4 * i + n ≡ all = omega arith in
    let room : first_word N C + i < 2 ^ 68 = omega (arith, c.generator-words.ensures.bound) in
    let step =
    next_at K N C i c.next_word-then-bytes-gt0.result c.words.words c.next_word-then-bytes-gt0.new.self c.words.invariant.at c.next_word-then-bytes-gt0.ensures room in
    let piece : List ℕ = c.xor_word-then-bytes-gt0.new.bytes in
    let piece_is : piece ≡ xor_bytes (take n (drop (4 * i) c.words.bytes)) (to_le_bytes w32 (keystream_word K N C i)) =
    rw whole (c.xor_word-then-bytes-gt0.ensures
    ∙ ap (λ (w : List ℕ). xor_bytes (take (length c.words.bytes - 4 * (all / 4)) (drop (4 * (all / 4)) c.words.bytes)) w) (c.to_le_bytes-word-then-bytes-gt0.ensures
    ∙ ap (λ (x : ℕ). to_le_bytes w32 x) (rw whole at step.0))) in
    let long : length piece ≡ n = omega arith in
    let sum : 4 * i + n ≡ length c.words.bytes = omega arith in
    let fits : 4 * i ≤ length c.words.bytes = omega arith in
    let size : length (put_mid (4 * i) n c.words.bytes piece) ≤ 4 * i + length piece = search (rules, overwrites) in
    let last : put_mid (4 * i) n c.words.bytes piece ≡ take (4 * i) c.words.bytes ++ piece =
    sym (take_all all _ (omega (arith, size))) ∙ take-put_mid (4 * i) n c.words.bytes piece all (omega arith) fits in
    let more = more_done K N C i n c.args.bytes.now c.words.bytes piece c.words.invariant.done c.words.invariant.rest piece_is (omega arith) (omega arith) in
    rw whole at (last
    ∙ more
    ∙ ap (λ (m : ℕ). xor_bytes (take m c.args.bytes.now) (keystream K N C 0 m)) end
    ∙ ap (λ (xs : List ℕ). xor_bytes xs (keystream K N C 0 all)) (take_all all c.args.bytes.now (omega arith)))

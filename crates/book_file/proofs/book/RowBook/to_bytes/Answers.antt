use Rattle.std.proofs.Common.{◌≡◌, ◌++◌, true, sym, ap, ◌∙◌, subst, arith, append_assoc, length}
use Rattle.std.specs.Prelude.{All}
use Rattle.std.specs.List.{flat_map}
use Rattle.std.specs.Map.{keys_of}
use Rattle.std.specs.Map.Iter.{deref_pair}
use Rattle.std.proofs.lemmas.Map.Iter.{rest_more}
use Rattle.std.proofs.lemmas.List.Elements.{All-head, All-tail}
use Rattle.book_file.specs.Book.{is_outer_frame}
use Rattle.book_file.specs.Spelling.{spelling, entry_bytes}
use Rattle.book_file.proofs.Books.{short_frame}
use Rattle.book_file.proofs.book.RowBook.to_bytes.Goals as goal

pub loop-frame-init : goal.loop-frame-init
unfolding spelling
loop-frame-init c =
    let all = c.into_iter-frame-iterator.ensures.into_iter_gives ∙ c.iter-frame-items.ensures.rest in
    record {
      can_next = tt;
      is_finite = tt;
      whole = λ i. c.in_ok-bytes.ensures i ++ flat_map entry_bytes (all i);
      good = subst (λ es. All (λ frame. is_outer_frame c.args.self.now.epoch frame ≡ true) (keys_of es)) (sym all) c.know.ensures.frames;
    }

pub push_entry-requires : goal.push_entry-requires
push_entry-requires c =
    let more = rest_more deref_pair c.loop-frame.frame-iterator c.next.new.self c.next.result (c.in-Some.frame, c.in-Some.count) c.in-Some.is c.next.ensures.steps in
    let good = subst (λ es. All (λ frame. is_outer_frame c.args.self.now.epoch frame ≡ true) (keys_of es)) more c.loop-frame.invariant.good in
    let here = All-head (λ frame. is_outer_frame c.args.self.now.epoch frame ≡ true) c.in-Some.frame.now (keys_of c.next.new.self) good in
    omega (arith, short_frame c.args.self.now.epoch c.in-Some.frame.now here, ap length c.as_slice.ensures)

pub loop-frame-preserved : goal.loop-frame-preserved
loop-frame-preserved c =
    let more = rest_more deref_pair c.loop-frame.frame-iterator c.next.new.self c.next.result (c.in-Some.frame, c.in-Some.count) c.in-Some.is c.next.ensures.steps in
    let good = subst (λ es. All (λ frame. is_outer_frame c.args.self.now.epoch frame ≡ true) (keys_of es)) more c.loop-frame.invariant.good in
    let put = c.in_ok-push_entry.ensures ∙ ap (λ f. c.loop-frame.bytes.items ++ entry_bytes (f, c.in-Some.count.now)) c.as_slice.ensures in
    record {
      can_next = tt;
      is_finite = tt;
      whole =
          ap (λ bytes. bytes ++ flat_map entry_bytes c.next.new.self) put
          ∙ append_assoc c.loop-frame.bytes.items (entry_bytes (c.in-Some.frame.now, c.in-Some.count.now)) (flat_map entry_bytes c.next.new.self)
          ∙ ap (λ es. c.loop-frame.bytes.items ++ flat_map entry_bytes es) (sym more)
          ∙ c.loop-frame.invariant.whole;
      good = All-tail (λ frame. is_outer_frame c.args.self.now.epoch frame ≡ true) c.in-Some.frame.now (keys_of c.next.new.self) good;
    }

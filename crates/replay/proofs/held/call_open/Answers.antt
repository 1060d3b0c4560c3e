use Rattle.std.proofs.Common.{rules, ◌≡◌, ◌∙◌}
use Rattle.book.specs.Books.{open_marked}
use Rattle.replay.specs.Said.{said, said_or}
use Rattle.replay.proofs.Unbuilt.{unbuilt, changed_is, after_open}
use Rattle.replay.proofs.held.call_open.Goals as goal

pub returns : goal.returns
returns c =
    let other = unbuilt c.args.call c.in_default.not-Build in
    let told : said c.unwrap_or_else-answer.result ≡ said_or c.change.result = search rules in
    record {
      answer = told ∙ c.change.ensures.answer ∙ changed_is (open_marked c.args.book) _ other;
      after = after_open (open_marked c.args.book) _ _ other c.change.ensures.after;
    }

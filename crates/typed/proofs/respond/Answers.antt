-- `typed::respond` meets its contract: each refusal is the definition's at the first test that fails, and the answer to a clear text is that to
-- its listing. Assumes nothing.
use mathlib.Core.Path.{sym, ap, ◌∙◌}
use Rattle.std.proofs.Common.{Option, ok_or}
use Rattle.std.proofs.lemmas.Result.{err_from_is_err_and}
use Rattle.meaning.specs.declared.Kind.{Kind}
use Rattle.typed.specs.declared.Unanswered.TheVariants.{Unclear}
use Rattle.typed.proofs.Replies.{worded, wordless, says_short, says_long, says_wordless, says_odd, says_digitless, says_answered}
use Rattle.typed.proofs.respond.Goals as goal

pub returns-then-log-lt-LONGEST_LOG : goal.returns-then-log-lt-LONGEST_LOG
returns-then-log-lt-LONGEST_LOG c = let a = c.args in
    says_short a.text.now a.log.now c.if-log-lt-LONGEST_LOG.true

pub returns-then-text-gt-LONGEST_TEXT : goal.returns-then-text-gt-LONGEST_TEXT
returns-then-text-gt-LONGEST_TEXT c = let a = c.args in
    says_long a.text.now a.log.now c.if-log-lt-LONGEST_LOG.false c.if-text-gt-LONGEST_TEXT.true

pub returns-in_err-kind : goal.returns-in_err-kind
returns-in_err-kind c = let a = c.args in
    let told = c.ok_or.ensures.value ∙ ap (λ (k : Option Kind). ok_or k Unclear) c.word_kind.ensures in
    let k = wordless a.text.now (sym told ∙ c.in_err-kind.was) in
    let left = err_from_is_err_and c.from_residual.result c.from_residual.ensures.1 in
    rw (left.1, left.2, k.2) (says_wordless a.text.now a.log.now c.if-log-lt-LONGEST_LOG.false c.if-text-gt-LONGEST_TEXT.false k.0 k.1)

pub returns-then-digits-ne0 : goal.returns-then-digits-ne0
returns-then-digits-ne0 c = let a = c.args in
    let told = c.ok_or.ensures.value ∙ ap (λ (k : Option Kind). ok_or k Unclear) c.word_kind.ensures in
    says_odd a.text.now a.log.now c.if-log-lt-LONGEST_LOG.false c.if-text-gt-LONGEST_TEXT.false (worded a.text.now (sym told ∙ c.in_ok-kind.was)) c.line_length-digits.ensures c.if-digits-ne0.true

pub returns-then-not-hex_fits : goal.returns-then-not-hex_fits
returns-then-not-hex_fits c = let a = c.args in
    let told = c.ok_or.ensures.value ∙ ap (λ (k : Option Kind). ok_or k Unclear) c.word_kind.ensures in
    says_digitless a.text.now a.log.now c.if-log-lt-LONGEST_LOG.false c.if-text-gt-LONGEST_TEXT.false (worded a.text.now (sym told ∙ c.in_ok-kind.was)) c.line_length-digits.ensures c.if-digits-ne0.false (sym c.hex_fits.ensures ∙ c.if-not-hex_fits.true)

pub returns : goal.returns
returns c = let a = c.args in
    let told = c.ok_or.ensures.value ∙ ap (λ (k : Option Kind). ok_or k Unclear) c.word_kind.ensures in
    let reply = c.answer_text.ensures in
    says_answered a.text.now a.log.now c.if-log-lt-LONGEST_LOG.false c.if-text-gt-LONGEST_TEXT.false (worded a.text.now (sym told ∙ c.in_ok-kind.was)) c.line_length-digits.ensures c.if-digits-ne0.false (sym c.hex_fits.ensures ∙ c.if-not-hex_fits.false) reply.value reply.log_after

use Rattle.std.proofs.Common.{◌≡◌, ◌∙◌, ◌⊎◌, sym, ap, subst, inl, inr, map, None, Some, Ok, Err}
use Rattle.std.specs.Prelude.{string_bytes}
use Rattle.clap.specs.Words.{IsAmong, fault_of, subcommand_rows_of}
use Rattle.clap.specs.declared.error.kind.ErrorKind.{ErrorKind}
use Rattle.clap.specs.declared.error.kind.ErrorKind.TheVariants as kind
use Rattle.sg_words.specs.Grammar.{srtpgw}
use Rattle.sg_words.proofs.Complete.{complete, refused_so, taken_so}
use Rattle.sg_words.proofs.Sound.{sound}
use Rattle.sg_words.proofs.reading.read_command.Goals as goal

pub returns-in-Err-clause-told : goal.returns-in-Err-clause-told
returns-in-Err-clause-told c = λ command are.
    inr (ap (λ f. Err f) (refused_so (map string_bytes c.args.words.now) c.kind.result c.refused.result command
    (subst (λ (k : ErrorKind). (k ≡ kind.OutOfMemory) ⊎ IsAmong k (fault_of srtpgw (map string_bytes c.args.words.now))) (sym c.kind.ensures) c.in-Err.ensures.exact)
    c.refused.ensures.memory are))

pub returns-in-Some-clause-command : goal.returns-in-Some-clause-command
returns-in-Some-clause-command c =
    let words = map string_bytes c.args.words.now in
    sound words c.in-Some.command (sym (taken_so words c.said.result (subcommand_rows_of c.in-Ok.matches) c.in-Ok.ensures.exact c.in-Ok.ensures.found c.said.ensures) ∙ c.in-Some.is)

pub returns-in-Some-clause-told : goal.returns-in-Some-clause-told
returns-in-Some-clause-told c = λ command are.
    let words = map string_bytes c.args.words.now in
    let read : Some c.in-Some.command ≡ Some command =
    sym c.in-Some.is ∙ taken_so words c.said.result (subcommand_rows_of c.in-Ok.matches) c.in-Ok.ensures.exact c.in-Ok.ensures.found c.said.ensures ∙ complete words command are in
    let same : c.in-Some.command ≡ command = cc in
    inl (ap (λ r. Ok r) same)

pub returns-clause-told : goal.returns-clause-told
returns-clause-told c = λ command are.
    let words = map string_bytes c.args.words.now in
    let read : None ≡ Some command =
    sym c.in-None.is ∙ taken_so words c.said.result (subcommand_rows_of c.in-Ok.matches) c.in-Ok.ensures.exact c.in-Ok.ensures.found c.said.ensures ∙ complete words command are in
    cc

pub returns-in-Err-clause-usage : goal.returns-in-Err-clause-usage
returns-in-Err-clause-usage c = λ is command are.
    let memory = refused_so (map string_bytes c.args.words.now) c.kind.result c.refused.result command
    (subst (λ (k : ErrorKind). (k ≡ kind.OutOfMemory) ⊎ IsAmong k (fault_of srtpgw (map string_bytes c.args.words.now))) (sym c.kind.ensures) c.in-Err.ensures.exact)
    c.refused.ensures.memory are in
    cc

pub returns-clause-usage : goal.returns-clause-usage
returns-clause-usage c = λ is command are.
    let words = map string_bytes c.args.words.now in
    let read : None ≡ Some command =
    sym c.in-None.is ∙ taken_so words c.said.result (subcommand_rows_of c.in-Ok.matches) c.in-Ok.ensures.exact c.in-Ok.ensures.found c.said.ensures ∙ complete words command are in
    cc

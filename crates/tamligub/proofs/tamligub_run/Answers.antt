use Rattle.tamligub.proofs.Reports.{reported, front_reported, fault_reported, is_missed, put_within}
use Rattle.tamligub.proofs.Unasked.{memory_taken, usage_answered, nothing_put}
use Rattle.tamligub.proofs.tamligub_run.Goals as goal

pub returns-clause-reported : goal.returns-clause-reported
returns-clause-reported c =
    reported c.args.word.now c.args.given c.args.number c.args.page.now c.args.script.now c.args.out.now c.answer.new.out
    c.answer.new.put c.from.result c.answer.result (cc) c.answer.ensures

pub returns-clause-front : goal.returns-clause-front
returns-clause-front c =
    front_reported c.args.word.now c.args.given c.args.number c.args.page.now c.args.script.now c.args.out.now
    c.answer.new.out c.answer.new.put c.from.result c.answer.result (cc) c.answer.ensures

pub returns-clause-fault : goal.returns-clause-fault
returns-clause-fault c =
    fault_reported c.args.word.now c.args.given c.args.number c.args.page.now c.args.script.now c.args.out.now
    c.answer.new.out c.answer.new.put c.from.result c.answer.result (cc) c.answer.ensures

pub returns-clause-missed : goal.returns-clause-missed
returns-clause-missed c =
    is_missed c.args.word.now c.args.given c.args.number c.args.page.now c.args.script.now c.args.out.now
    c.answer.new.out c.answer.new.put c.from.result c.answer.result (cc) c.answer.ensures

pub returns-clause-usage : goal.returns-clause-usage
returns-clause-usage c =
    usage_answered c.args.word.now c.args.given c.args.number c.args.page.now c.args.script.now c.args.out.now
    c.answer.new.out c.answer.new.put c.from.result c.answer.result (cc) c.answer.ensures

pub returns-clause-nothing : goal.returns-clause-nothing
returns-clause-nothing c =
    nothing_put c.args.word.now c.args.given c.args.number c.args.page.now c.args.script.now c.args.out.now
    c.answer.new.out c.answer.new.put c.from.result c.answer.result (cc) c.answer.ensures

pub returns-clause-memory : goal.returns-clause-memory
returns-clause-memory c =
    memory_taken c.args.word.now c.args.given c.args.number c.args.page.now c.args.script.now c.args.out.now
    c.answer.new.out c.answer.new.put c.from.result c.answer.result (cc) c.answer.ensures

pub returns-clause-within : goal.returns-clause-within
returns-clause-within c =
    put_within c.args.word.now c.args.given c.args.number c.args.page.now c.args.script.now c.args.out.now c.answer.new.out
    c.answer.new.put c.answer.result c.answer.ensures

-- The plan of a decoder before the first byte.
use Rattle.std.proofs.Common.{◌≡◌, Bool, true, false, cond, List, [], None, refl, sym, ◌∙◌, ap, subst}
use Rattle.cept_editor.specs.Kept.{EditorState}
use Rattle.cept_editor.specs.Made.{Output}
use Rattle.cept_editor.specs.Script.{EditLine}
use Rattle.cept_plot.specs.declared.figure.Figure.{Figure}
use Rattle.cept_profile.specs.State.{State, state}
use Rattle.cept_run.specs.declared.target.Target.{Target}
use Rattle.cept_run.specs.declared.target.Target.TheVariants as targets
use Rattle.cept_run.specs.declared.words.ReportOptions.{ReportOptions}
use Rattle.cept_run.specs.declared.words.PageAction.{PageAction}
use Rattle.cept_run.specs.declared.words.PageAction.TheVariants as pages
use Rattle.cept_run.specs.declared.words.ScriptAction.{ScriptAction}
use Rattle.cept_run.specs.declared.words.ScriptAction.TheVariants as scripts
use Rattle.cept_run.specs.Events.{Sequel, NoSequel, Edits, Figures}
use Rattle.cept_run.specs.Reporting.{Plan, sequel_of, ReporterState, painted_target, target_at, sequel_at, plan_in}
use Rattle.cept_run.specs.Reporting.{DecoderState, HasRead, HasBlink}
use Rattle.cept_run.specs.Words.{options_of_page, options_of_script, is_painted}

-- without a script
abbrev pub alone : ReportOptions → Plan
alone options = record { options = options; sequel = NoSequel }

-- with one, or with a drawing, that says that this is done
abbrev pub followed : ReportOptions → Sequel → Plan
followed options sequel = record { options = options; sequel = sequel }

plan_is : (r : ReporterState) (options : ReportOptions) (sequel : Sequel) → r.options ≡ options
    → sequel_at r.target ≡ sequel → plan_in r ≡ record { options = options; sequel = sequel }
plan_is r options next p q = λ i. record { options = p i; sequel = q i }

-- ---- a page alone

pub plan_alone : (r : ReporterState) (options : ReportOptions) (target : Target) → r.options ≡ options → r.target ≡ target
    → target ≡ target_at (alone options) [] → plan_in r ≡ alone options
plan_alone r options target same at is =
    plan_is r options NoSequel same (ap sequel_at (at ∙ is) ∙ by_flag (is_painted options.way))
  where
    by_flag : (b : Bool) → sequel_at (cond b (painted_target NoSequel []) targets.Nothing) ≡ NoSequel
    by_flag true = refl
    by_flag false = refl

pub nothing_alone : (options : ReportOptions) → sequel_of (alone options) ≡ NoSequel
nothing_alone options = by_flag (is_painted options.way)
  where
    by_flag : (b : Bool) → cond b (NoSequel) NoSequel ≡ NoSequel
    by_flag true = refl
    by_flag false = refl

-- of a page alone nothing flashes
pub page_blink : (action : PageAction) → HasBlink (options_of_page action).end None
page_blink pages.Changes = tt
page_blink pages.Check = tt
page_blink pages.List = tt
page_blink pages.Show = tt
page_blink pages.Cells = tt
page_blink pages.Write = tt

-- ---- a page and a script

pub script_paints : (action : ScriptAction) → is_painted (options_of_script action).way ≡ true
script_paints scripts.Trace = refl
script_paints scripts.Edit = refl

-- nor of a page and a script
pub script_blink : (action : ScriptAction) → HasBlink (options_of_script action).end None
script_blink scripts.Trace = tt
script_blink scripts.Edit = tt

pub target_edited : (options : ReportOptions) (editor : EditorState) (lines : List EditLine) → is_painted options.way ≡ true
    → editor ≡ record { screen = state []; past = []; future = [] }
    → targets.Editor editor lines ≡ target_at (followed options (Edits lines)) []
target_edited options editor lines painting is =
    ap (λ (e : EditorState). targets.Editor e lines) is
    ∙ ap (λ b. cond b (painted_target (Edits lines) []) targets.Nothing) (sym painting)

-- ---- a page and a drawing

pub target_drawn : (options : ReportOptions) (screen : State) (figures : List Figure) → is_painted options.way ≡ true → screen ≡ state []
    → targets.Drawing screen figures ≡ target_at (followed options (Figures figures)) []
target_drawn options screen figures painting is =
    ap (λ (s : State). targets.Drawing s figures) is
    ∙ ap (λ b. cond b (painted_target (Figures figures) []) targets.Nothing) (sym painting)

-- ---- a page and what is done after it

pub plan_followed : (r : ReporterState) (options : ReportOptions) (target : Target) (sequel : Sequel) → r.options ≡ options
    → r.target ≡ target → sequel_at target ≡ sequel → plan_in r ≡ followed options sequel
plan_followed r options target next same at is = plan_is r options next same (ap sequel_at at ∙ is)

pub sequel_followed : (options : ReportOptions) (sequel : Sequel) → is_painted options.way ≡ true
    → sequel_of (followed options sequel) ≡ sequel
sequel_followed options next painting = ap (λ b. cond b next NoSequel) painting

-- ---- by its own plan

pub fresh_by : (decoder : DecoderState) (plan : Plan) (start : Output) → plan_in decoder.reporter ≡ plan
    → HasRead plan decoder [] start start → HasRead (plan_in decoder.reporter) decoder [] start start
fresh_by decoder plan start is read = subst (λ (p : Plan). HasRead p decoder [] start start) (sym is) read

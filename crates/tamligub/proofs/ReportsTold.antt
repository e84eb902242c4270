-- The lines of what the items of a page say are the report of `changes`.
use Rattle.std.proofs.Common.{◌≡◌, ℕ, ◌+◌, List, [], ◌∷◌, ◌++◌, length, map, take, refl, sym, ap, ◌∙◌, append_assoc, append-nil, length-append}
use Rattle.std.specs.List.{enumerate_from, flat_map}
use Rattle.std.proofs.Math.Seq.{take-append_seam}
use Rattle.std.proofs.lemmas.Grind.{flat_map-append}
use Rattle.std.proofs.lemmas.List.{map-append}
use Rattle.cept_codes.specs.declared.command.Command.{Command}
use Rattle.cept_codes.specs.declared.item.Item.{Item}
use Rattle.cept_codes.specs.declared.item.Said.{Said}
use Rattle.cept_codes.specs.declared.item.Said.TheVariants as said
use Rattle.cept_codes.specs.declared.look.Look.{Look}
use Rattle.cept_parser.specs.Items.{closed_items, command_said, commands_of, items, reading_within}
use Rattle.cept_profile.specs.Changes.{changes_between}
use Rattle.cept_profile.specs.Look.{grid}
use Rattle.cept_report.specs.Text.{change_lines}
use Rattle.cept_editor.specs.Events.{Event, still_event, report}
use Rattle.cept_live.specs.declared.notice.Notice.{Notice}
use Rattle.cept_live.specs.Lines.{item_lines, line_of, lines_after, lines_of, said_lines}
use Rattle.cept_live.specs.Live.{Ends, HasFed, LiveState, TellsAll}
use Rattle.cept_live.specs.Notices.{Saying, notice_of, sayings_after}
use Rattle.cept_live.proofs.Laws.{commands_of-more, lines_of-items, sayings_after-append}
use Rattle.cept_run.specs.declared.words.ReportOptions.{ReportOptions}
use Rattle.cept_run.specs.declared.words.PageAction.TheVariants as pages
use Rattle.cept_run.specs.Events.{history, item_event, item_events, NoSequel, remaining_of, run_events}
use Rattle.cept_run.specs.Events.{end_text, item_text}
use Rattle.cept_run.specs.Words.{options_of_page}
use Rattle.tamligub.specs.Told.{lines_in}
use Rattle.tamligub.proofs.NoticesRead.{saying_read}

abbrev asked : ReportOptions
asked = options_of_page pages.Changes

-- the last event of a page's report
abbrev last : List ℕ → List (List Look) → Event
last page shown =
    let left = remaining_of asked page NoSequel in
    still_event left (end_text asked shown page left)

-- ---- of items

-- the text of an item's event
text_told : (earlier : List Item) (item : Item) (s : Said) → item.what ≡ s
    → item_text asked item s (changes_between (grid (history asked earlier)) (grid (history asked (earlier ++ item ∷ []))))
    ≡ said_lines item (commands_of earlier) s
text_told earlier item (said.Command command) is =
    ap (λ (h : List Command). change_lines item.at (changes_between (grid (commands_of earlier)) (grid h)))
    (commands_of-more earlier item ∙ ap (λ (t : Said). commands_of earlier ++ command_said t) is)
text_told earlier item (said.Refused reason) is = refl

-- the texts of the events of items that come after others
texts_told : (earlier more whole : List Item) (n : ℕ) → whole ≡ earlier ++ more → n ≡ length earlier
    → flat_map (λ (e : Event). e.text)
    (map (λ numbered. item_event asked (take numbered.0 whole) numbered.1) (enumerate_from n more)) ≡ lines_after earlier more
unfolding lines_after
texts_told earlier [] whole n is counted = refl
texts_told earlier (item ∷ more) whole n is counted =
    let front : take n whole ≡ earlier =
    ap (λ k. take k whole) counted ∙ ap (take (length earlier)) is ∙ take-append_seam earlier (item ∷ more) in
    let rest = flat_map (λ (e : Event). e.text)
    (map (λ (numbered : ℕ × Item). item_event asked (take numbered.0 whole) numbered.1) (enumerate_from (n + 1) more)) in
    ap (λ (l : List Item). (item_event asked l item).text ++ rest) front
    ∙ ap (λ l. l ++ rest) (text_told earlier item item.what refl)
    ∙ ap (λ l. item_lines earlier item ++ l)
    (texts_told (earlier ++ item ∷ []) more whole (n + 1) (is ∙ sym (append_assoc earlier (item ∷ []) more))
    (ap (λ k. k + 1) counted ∙ sym (length-append earlier (item ∷ []))))

-- ---- of a whole page

report-items : (page : List ℕ) (shown : List (List Look))
    → report (run_events asked page NoSequel shown) ≡ flat_map (λ (e : Event). e.text) (item_events asked (closed_items page))
unfolding report
report-items page shown =
    ap (flat_map (λ (e : Event). e.text)) (ap (λ (l : List Event). l ++ last page shown ∷ [])
    (append-nil (item_events asked (closed_items page))))
    ∙ flat_map-append (λ (e : Event). e.text) (item_events asked (closed_items page))
    (last page shown ∷ [])
    ∙ append-nil _

texts-page : (page : List ℕ) → flat_map (λ (e : Event). e.text) (item_events asked (closed_items page)) ≡ lines_after [] (closed_items page)
unfolding item_events
texts-page page = texts_told [] (closed_items page) (closed_items page) 0 refl refl

pub lines_of-page : (page : List ℕ) (shown : List (List Look))
    → lines_of (sayings_after [] (closed_items page)) ≡ report (run_events asked page NoSequel shown)
lines_of-page page shown =
    lines_of-items [] (closed_items page) ∙ sym (texts-page page) ∙ sym (report-items page shown)

-- ---- of notices

lines_in-notices : (list : List Saying) → lines_in (map notice_of list) ≡ lines_of list
lines_in-notices [] = refl
lines_in-notices (s ∷ ss) =
    ap (λ (t : Saying). line_of t ++ lines_in (map notice_of ss)) (saying_read s) ∙ ap (λ l. line_of s ++ l) (lines_in-notices ss)

no_items : items [] ≡ []
unfolding reading_within
no_items = refl

-- what is told of all bytes of a page and of its end
notices_told : (page : List ℕ) (closed left : List Item) (notices more : List Notice) → items page ≡ items [] ++ closed
    → notices ≡ map notice_of (sayings_after (items []) closed) → closed_items page ≡ items page ++ left
    → more ≡ map notice_of (sayings_after (items page) left)
    → notices ++ more ≡ map notice_of (sayings_after [] (closed_items page))
notices_told page closed left notices more are is ends is_more =
    let all : items page ≡ closed = are ∙ ap (λ (l : List Item). l ++ closed) no_items in
    ap (λ l. l ++ more) (is ∙ ap (λ (l : List Item). map notice_of (sayings_after l closed)) no_items)
    ∙ ap (λ l. map notice_of (sayings_after [] closed) ++ l) (is_more ∙ ap (λ (l : List Item). map notice_of (sayings_after l left)) all)
    ∙ sym (map-append notice_of (sayings_after [] closed) (sayings_after closed left))
    ∙ ap (map notice_of) (sym (sayings_after-append [] closed left)
    ∙ ap (sayings_after []) (ap (λ (l : List Item). l ++ left) (sym all) ∙ sym ends))

pub lines_in-page : (page : List ℕ) (shown : List (List Look)) (old mid new : LiveState) (notices other after : List Notice) (to : ℕ)
    → HasFed old [] → TellsAll old page notices → HasFed mid page → Ends mid other 0 new to after
    → lines_in (notices ++ take to after) ≡ report (run_events asked page NoSequel shown)
lines_in-page page shown old mid new notices other after to opened told fed ended =
    let one = told.tells [] opened in
    let two = ended.tells page fed in
    ap lines_in (notices_told page one.0 two.closed notices (take to after) one.1 one.2 two.are two.tells.front)
    ∙ lines_in-notices (sayings_after [] (closed_items page)) ∙ lines_of-page page shown

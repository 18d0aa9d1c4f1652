-- What a machine file means.
use Rattle.std.specs.Prelude.{ℕ, ◌+◌, List, [], length, Ok, Err, Result}
use Rattle.basis.specs.declared.fault.Fault.{Fault}
use Rattle.grammar.specs.Binds.{bind}
use Rattle.grammar.specs.Bodies.{Told, bodies_of}
use Rattle.grammar.specs.Contents.{contents_of}
use Rattle.grammar.specs.Passes.{rising_from, apart_from}
use Rattle.grammar.specs.Sheets.{Content, blank_content}
use Rattle.grammar.specs.Texts.{Lines, bytes_from, lines}

-- the content of a sheet with these bodies: the first task stands on the line after its heading
abbrev pub content_of : Told → Content
content_of told =
    record {
      levels = told.levels.items;
      power = told.power;
      tasks = told.tasks.items;
      first = told.tasks.heading + 1;
    }

-- what a text means as a machine file, pass by pass: bytes, contents, bodies, levels, tasks
abbrev pub read_of : List ℕ → Result Content Fault
read_of text =
    bind (bytes_from 0 0 text) (λ _.
    bind (contents_of (lines text)) (λ contents.
    bind (bodies_of contents) (λ bodies.
    bind (rising_from bodies.0.levels.heading 0 bodies.0.levels.items) (λ _.
    bind (apart_from (bodies.0.tasks.heading + 1) [] bodies.0.tasks.items) (λ _.
    Ok (content_of bodies.0))))))

-- what a reader of it answers
abbrev pub answer_of : Result Content Fault → Result (Unit {0}) Fault
answer_of (Ok c) = Ok tt
answer_of (Err e) = Err e

-- what its sheet holds then: the content, or that of the blank sheet
abbrev pub filled_by : Result Content Fault → Content
filled_by (Ok c) = c
filled_by (Err e) = blank_content

-- what a text means, and the lines after its bodies, which may be a script
abbrev pub file_of : List ℕ → Result (Content × Lines) Fault
file_of text =
    bind (bytes_from 0 0 text) (λ _.
    bind (contents_of (lines text)) (λ contents.
    bind (bodies_of contents) (λ bodies.
    bind (rising_from bodies.0.levels.heading 0 bodies.0.levels.items) (λ _.
    bind (apart_from (bodies.0.tasks.heading + 1) [] bodies.0.tasks.items) (λ _.
    Ok (content_of bodies.0, bodies.1))))))

-- the line on which the script starts: the contents, three headings, the levels, the power line and the tasks stand before it
abbrev pub script_start : Content → ℕ
script_start c = 10 + length c.levels + length c.tasks

-- what a reader of both answers: the line on which the script starts, and its lines, unread as yet
abbrev pub unread_of : Result (Content × Lines) Fault → Result (ℕ × Lines) Fault
unread_of (Ok x) = Ok (script_start x.0, x.1)
unread_of (Err e) = Err e

-- what its sheet holds then
abbrev pub content_after : Result (Content × Lines) Fault → Content
content_after (Ok x) = x.0
content_after (Err e) = blank_content

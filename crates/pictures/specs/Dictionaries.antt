-- Dictionaries and names (PostScript Language Reference, third edition, 3.3.9, 3.4, 3.7.5). All dictionaries are
-- one list of entries, the latest first. The topmost dictionary on the stack that has a name gives its meaning;
-- below them all is systemdict, which never changes.
use Rattle.std.specs.Prelude.{ℕ, List, [], ◌∷◌, Bool, true, false, ◌&&◌, ◌==◌, if◌then◌else◌, Option, Some, None, codes}
use Rattle.std.specs.Prelude.{bytes_eq}
use Rattle.std.specs.List.{list_any}
use Rattle.pictures.specs.Objects.{Object, Dictionary, SystemDictionary, Truth, Operator, Kind, Computes, Controls, Draws}
use Rattle.pictures.specs.Objects.{PushesGraphics, PopsGraphics, PopsAllGraphics, Saves, Looks, TakesMatrix}
use Rattle.pictures.specs.Objects.{SetsMatrix, DefaultMatrix, InitialMatrix, InitialClip, ClipOutline, PathElements}
use Rattle.pictures.specs.Objects.{SetsDevice, ErasesPage, CopiesPage, Count, MakeExecutable, IsWritable, MakeReadOnly}
use Rattle.pictures.specs.Objects.{MakeMatrix}
use Rattle.pictures.specs.Objects.{Restores, Ships, Resets, Pop, Duplicate, Exchange, OpenArray, CloseArray, Put}
use Rattle.pictures.specs.Objects.{Define, Begin, End}
use Rattle.pictures.specs.Objects.{MakeDictionary, Load, Bind, Known, Index, ClearToMark, FindFont, ScaleFont, Execute}
use Rattle.pictures.specs.Objects.{Calculate, Add, Subtract, Multiply, Divide, Negate, Compare, Equal, NotEqual, Less}
use Rattle.pictures.specs.Objects.{LessOrEqual, Greater, GreaterOrEqual, And, Or, Not, Where, Get, Length, LoadArray}
use Rattle.pictures.specs.Objects.{CloseDictionary, Roll, Copies}
use Rattle.pictures.specs.Objects.{If, IfElse, Repeat, For, ForAll, Want, ANumber, AText, AnArray}
use Rattle.pictures.specs.Objects.{AMatrix, AFont, AName, ATruth, Effect, Segments, Transforms, Sets, Paints, PaintsBeside}
use Rattle.pictures.specs.Objects.{Shows, Clips, Forgets}

-- what one dictionary has for one key; dictionaries are identified by number
pub record DictionaryEntry : Type 0 where
  pub dictionary : ℕ
  pub key : List ℕ
  pub value : Object

-- the dictionary that is made first, and is never removed from the stack
abbrev pub userdict : ℕ
userdict = 0

-- a graphics operator, with the operands that it takes and its effect
abbrev pub draws : List ℕ → List Want → Effect → DictionaryEntry
draws name wants effect = record { dictionary = userdict; key = name; value = Operator name (Draws wants effect) }

abbrev pub is : List ℕ → Kind → DictionaryEntry
is name kind = record { dictionary = userdict; key = name; value = Operator name kind }

abbrev pub constant : List ℕ → Object → DictionaryEntry
constant name object = record { dictionary = userdict; key = name; value = object }

-- each by its name in 8.2, 'Operator details', with its operands there, the topmost first. userdict, systemdict,
-- true and false are values, not operators. If an operator takes operands of several kinds, only one kind is here
abbrev pub systemdict : List DictionaryEntry
systemdict =
    constant (codes "userdict") (Dictionary userdict) ∷ constant (codes "systemdict") SystemDictionary
    ∷ constant (codes "true") (Truth true) ∷ constant (codes "false") (Truth false)
    ∷ is (codes "pop") (Computes Pop) ∷ is (codes "dup") (Computes Duplicate) ∷ is (codes "exch") (Computes Exchange)
    ∷ is (codes "[") (Computes OpenArray) ∷ is (codes "]") (Computes CloseArray)
    ∷ is (codes "put") (Computes Put) ∷ is (codes "def") (Computes Define)
    ∷ is (codes "begin") (Computes Begin) ∷ is (codes "end") (Computes End)
    ∷ is (codes "dict") (Computes MakeDictionary)
    ∷ is (codes "load") (Computes Load) ∷ is (codes "bind") (Computes Bind)
    ∷ is (codes "known") (Computes Known) ∷ is (codes "index") (Computes Index)
    ∷ is (codes "mark") (Computes OpenArray) ∷ is (codes "cleartomark") (Computes ClearToMark)
    ∷ is (codes "findfont") (Computes FindFont) ∷ is (codes "scalefont") (Computes ScaleFont)
    ∷ is (codes "copy") Copies ∷ is (codes "roll") (Computes Roll)
    ∷ is (codes "exec") (Controls Execute) ∷ is (codes "if") (Controls If) ∷ is (codes "ifelse") (Controls IfElse)
    ∷ is (codes "repeat") (Controls Repeat) ∷ is (codes "for") (Controls For) ∷ is (codes "forall") (Controls ForAll)
    ∷ is (codes "add") (Computes (Calculate Add)) ∷ is (codes "sub") (Computes (Calculate Subtract))
    ∷ is (codes "mul") (Computes (Calculate Multiply)) ∷ is (codes "div") (Computes (Calculate Divide))
    ∷ is (codes "neg") (Computes Negate)
    ∷ is (codes "eq") (Computes (Compare Equal)) ∷ is (codes "ne") (Computes (Compare NotEqual))
    ∷ is (codes "lt") (Computes (Compare Less)) ∷ is (codes "le") (Computes (Compare LessOrEqual))
    ∷ is (codes "gt") (Computes (Compare Greater)) ∷ is (codes "ge") (Computes (Compare GreaterOrEqual))
    ∷ is (codes "and") (Computes And) ∷ is (codes "or") (Computes Or) ∷ is (codes "not") (Computes Not)
    ∷ is (codes "where") (Computes Where) ∷ is (codes "get") (Computes Get) ∷ is (codes "length") (Computes Length)
    ∷ is (codes "aload") (Computes LoadArray)
    ∷ is (codes "<<") (Computes OpenArray) ∷ is (codes ">>") (Computes CloseDictionary)
    ∷ is (codes "count") (Computes Count) ∷ is (codes "cvx") (Computes MakeExecutable)
    ∷ is (codes "wcheck") (Computes IsWritable) ∷ is (codes "readonly") (Computes MakeReadOnly)
    ∷ is (codes "matrix") (Computes MakeMatrix)
    ∷ draws (codes "newpath") [] Forgets
    ∷ draws (codes "moveto") (ANumber ∷ ANumber ∷ []) Segments
    ∷ draws (codes "rmoveto") (ANumber ∷ ANumber ∷ []) Segments
    ∷ draws (codes "lineto") (ANumber ∷ ANumber ∷ []) Segments
    ∷ draws (codes "rlineto") (ANumber ∷ ANumber ∷ []) Segments
    ∷ draws (codes "curveto") (ANumber ∷ ANumber ∷ ANumber ∷ ANumber ∷ ANumber ∷ ANumber ∷ []) Segments
    ∷ draws (codes "rcurveto") (ANumber ∷ ANumber ∷ ANumber ∷ ANumber ∷ ANumber ∷ ANumber ∷ []) Segments
    ∷ draws (codes "arc") (ANumber ∷ ANumber ∷ ANumber ∷ ANumber ∷ ANumber ∷ []) Segments
    ∷ draws (codes "arcn") (ANumber ∷ ANumber ∷ ANumber ∷ ANumber ∷ ANumber ∷ []) Segments
    ∷ draws (codes "closepath") [] Segments
    ∷ draws (codes "concat") (AMatrix ∷ []) Transforms ∷ draws (codes "translate") (ANumber ∷ ANumber ∷ []) Transforms
    ∷ draws (codes "scale") (ANumber ∷ ANumber ∷ []) Transforms ∷ draws (codes "rotate") (ANumber ∷ []) Transforms
    ∷ draws (codes "setlinewidth") (ANumber ∷ []) Sets ∷ draws (codes "setlinecap") (ANumber ∷ []) Sets
    ∷ draws (codes "setlinejoin") (ANumber ∷ []) Sets ∷ draws (codes "setmiterlimit") (ANumber ∷ []) Sets
    ∷ draws (codes "setdash") (ANumber ∷ AnArray ∷ []) Sets ∷ draws (codes "setgray") (ANumber ∷ []) Sets
    ∷ draws (codes "setrgbcolor") (ANumber ∷ ANumber ∷ ANumber ∷ []) Sets
    ∷ draws (codes "setcmykcolor") (ANumber ∷ ANumber ∷ ANumber ∷ ANumber ∷ []) Sets
    ∷ draws (codes "setfont") (AFont ∷ []) Sets ∷ draws (codes "selectfont") (ANumber ∷ AName ∷ []) Sets
    ∷ draws (codes "fill") [] Paints ∷ draws (codes "eofill") [] Paints ∷ draws (codes "stroke") [] Paints
    ∷ draws (codes "rectfill") (ANumber ∷ ANumber ∷ ANumber ∷ ANumber ∷ []) PaintsBeside
    ∷ draws (codes "rectstroke") (ANumber ∷ ANumber ∷ ANumber ∷ ANumber ∷ []) PaintsBeside
    ∷ draws (codes "show") (AText ∷ []) Shows ∷ draws (codes "ashow") (AText ∷ ANumber ∷ ANumber ∷ []) Shows
    ∷ draws (codes "widthshow") (AText ∷ ANumber ∷ ANumber ∷ ANumber ∷ []) Shows
    ∷ draws (codes "awidthshow") (AText ∷ ANumber ∷ ANumber ∷ ANumber ∷ ANumber ∷ ANumber ∷ []) Shows
    ∷ draws (codes "image") (AText ∷ AMatrix ∷ ANumber ∷ ANumber ∷ ANumber ∷ []) PaintsBeside
    ∷ draws (codes "imagemask") (AText ∷ AMatrix ∷ ATruth ∷ ANumber ∷ ANumber ∷ []) PaintsBeside
    ∷ draws (codes "clip") [] Clips ∷ draws (codes "eoclip") [] Clips
    ∷ is (codes "gsave") PushesGraphics ∷ is (codes "grestore") PopsGraphics
    ∷ is (codes "grestoreall") PopsAllGraphics
    ∷ is (codes "save") Saves ∷ is (codes "restore") Restores
    ∷ is (codes "showpage") Ships ∷ is (codes "initgraphics") Resets
    ∷ is (codes "currentmatrix") (Looks TakesMatrix) ∷ is (codes "setmatrix") (Looks SetsMatrix)
    ∷ is (codes "defaultmatrix") (Looks DefaultMatrix) ∷ is (codes "initmatrix") (Looks InitialMatrix)
    ∷ is (codes "initclip") (Looks InitialClip) ∷ is (codes "clippath") (Looks ClipOutline)
    ∷ is (codes "pathforall") (Looks PathElements) ∷ is (codes "setpagedevice") (Looks SetsDevice)
    ∷ is (codes "erasepage") (Looks ErasesPage) ∷ is (codes "copypage") (Looks CopiesPage)
    ∷ []

-- what a dictionary has for a key
abbrev pub dictionary_entry : ℕ → List ℕ → List DictionaryEntry → Option Object
dictionary_entry d key [] = None
dictionary_entry d key (e ∷ es) = if bytes_eq e.key key && (e.dictionary == d) then Some e.value else dictionary_entry d key es

abbrev pub has : Option Object → Bool
has None = false
has (Some o) = true

-- what systemdict has
abbrev pub system : List ℕ → Option Object
system key = dictionary_entry userdict key systemdict

abbrev pub or : Option Object → Option Object → Option Object
or None next = next
or (Some o) next = Some o

-- a read-only dictionary has an entry for this, which can't be a name, as no byte is 256
abbrev pub read_only : List ℕ
read_only = 256 ∷ []

-- the meaning of a name (3.3.8) if these dictionaries are on the stack, the topmost first
abbrev pub meaning : List ℕ → List DictionaryEntry → List ℕ → Option Object
meaning [] es key = system key
meaning (d ∷ ds) es key = or (dictionary_entry d key es) (meaning ds es key)

-- the names of all other operators and values in an interpreter's systemdict (8.1, 'Operator Summary', and 8.2), which this
-- machine lacks
abbrev pub lacked : List (List ℕ)
lacked =
    codes "clear" ∷ codes "counttomark" ∷ codes "idiv" ∷ codes "mod" ∷ codes "abs" ∷ codes "ceiling" ∷ codes "floor"
    ∷ codes "round" ∷ codes "truncate" ∷ codes "sqrt" ∷ codes "atan" ∷ codes "cos" ∷ codes "sin" ∷ codes "exp"
    ∷ codes "ln" ∷ codes "log" ∷ codes "rand" ∷ codes "srand" ∷ codes "rrand" ∷ codes "array" ∷ codes "getinterval"
    ∷ codes "putinterval" ∷ codes "astore" ∷ codes "packedarray" ∷ codes "setpacking" ∷ codes "currentpacking"
    ∷ codes "maxlength" ∷ codes "store" ∷ codes "undef" ∷ codes "currentdict" ∷ codes "errordict" ∷ codes "$error"
    ∷ codes "globaldict" ∷ codes "statusdict" ∷ codes "countdictstack" ∷ codes "cleardictstack" ∷ codes "dictstack"
    ∷ codes "string" ∷ codes "anchorsearch" ∷ codes "search" ∷ codes "token" ∷ codes "xor" ∷ codes "bitshift"
    ∷ codes "loop" ∷ codes "exit" ∷ codes "stop" ∷ codes "stopped" ∷ codes "countexecstack" ∷ codes "execstack"
    ∷ codes "quit" ∷ codes "start" ∷ codes "type" ∷ codes "cvlit" ∷ codes "xcheck" ∷ codes "executeonly"
    ∷ codes "noaccess" ∷ codes "rcheck" ∷ codes "cvi" ∷ codes "cvn" ∷ codes "cvr" ∷ codes "cvrs"
    ∷ codes "cvs" ∷ codes "file" ∷ codes "filter" ∷ codes "closefile" ∷ codes "read" ∷ codes "write"
    ∷ codes "readhexstring" ∷ codes "writehexstring" ∷ codes "readstring" ∷ codes "writestring" ∷ codes "readline"
    ∷ codes "bytesavailable" ∷ codes "flush" ∷ codes "flushfile" ∷ codes "resetfile" ∷ codes "status" ∷ codes "run"
    ∷ codes "currentfile" ∷ codes "deletefile" ∷ codes "renamefile" ∷ codes "filenameforall" ∷ codes "setfileposition"
    ∷ codes "fileposition" ∷ codes "print" ∷ codes "=" ∷ codes "==" ∷ codes "stack" ∷ codes "pstack"
    ∷ codes "printobject" ∷ codes "writeobject" ∷ codes "setobjectformat" ∷ codes "currentobjectformat"
    ∷ codes "defineresource" ∷ codes "undefineresource" ∷ codes "findresource" ∷ codes "findcolorrendering"
    ∷ codes "resourcestatus" ∷ codes "resourceforall" ∷ codes "setglobal" ∷ codes "currentglobal" ∷ codes "gcheck"
    ∷ codes "startjob" ∷ codes "defineuserobject" ∷ codes "execuserobject" ∷ codes "undefineuserobject" ∷ codes "null"
    ∷ codes "version" ∷ codes "realtime" ∷ codes "usertime" ∷ codes "languagelevel" ∷ codes "product" ∷ codes "revision"
    ∷ codes "serialnumber" ∷ codes "executive" ∷ codes "echo" ∷ codes "prompt" ∷ codes "clipsave" ∷ codes "cliprestore"
    ∷ codes "gstate" ∷ codes "setgstate" ∷ codes "currentgstate" ∷ codes "currentlinewidth" ∷ codes "currentlinecap"
    ∷ codes "currentlinejoin" ∷ codes "currentmiterlimit" ∷ codes "setstrokeadjust" ∷ codes "currentstrokeadjust"
    ∷ codes "currentdash" ∷ codes "setcolorspace" ∷ codes "currentcolorspace" ∷ codes "setcolor" ∷ codes "currentcolor"
    ∷ codes "currentgray" ∷ codes "sethsbcolor" ∷ codes "currenthsbcolor" ∷ codes "currentrgbcolor"
    ∷ codes "currentcmykcolor" ∷ codes "sethalftone" ∷ codes "currenthalftone" ∷ codes "setscreen"
    ∷ codes "currentscreen" ∷ codes "setcolorscreen" ∷ codes "currentcolorscreen" ∷ codes "settransfer"
    ∷ codes "currenttransfer" ∷ codes "setcolortransfer" ∷ codes "currentcolortransfer" ∷ codes "setblackgeneration"
    ∷ codes "currentblackgeneration" ∷ codes "setundercolorremoval" ∷ codes "currentundercolorremoval"
    ∷ codes "setcolorrendering" ∷ codes "currentcolorrendering" ∷ codes "setflat" ∷ codes "currentflat"
    ∷ codes "setoverprint" ∷ codes "currentoverprint" ∷ codes "setsmoothness" ∷ codes "currentsmoothness"
    ∷ codes "identmatrix" ∷ codes "concatmatrix" ∷ codes "transform" ∷ codes "dtransform" ∷ codes "itransform"
    ∷ codes "idtransform" ∷ codes "invertmatrix" ∷ codes "currentpoint" ∷ codes "arct" ∷ codes "arcto"
    ∷ codes "flattenpath" ∷ codes "reversepath" ∷ codes "strokepath" ∷ codes "ustrokepath" ∷ codes "charpath"
    ∷ codes "uappend" ∷ codes "setbbox" ∷ codes "pathbbox" ∷ codes "upath" ∷ codes "rectclip" ∷ codes "ucache"
    ∷ codes "ustroke" ∷ codes "ufill" ∷ codes "ueofill" ∷ codes "shfill" ∷ codes "colorimage" ∷ codes "infill"
    ∷ codes "ineofill" ∷ codes "inufill" ∷ codes "inueofill" ∷ codes "instroke" ∷ codes "inustroke"
    ∷ codes "makepattern" ∷ codes "setpattern" ∷ codes "execform" ∷ codes "currentpagedevice" ∷ codes "nulldevice"
    ∷ codes "definefont" ∷ codes "composefont" ∷ codes "undefinefont" ∷ codes "makefont" ∷ codes "rootfont"
    ∷ codes "currentfont" ∷ codes "xshow" ∷ codes "xyshow" ∷ codes "yshow" ∷ codes "glyphshow" ∷ codes "stringwidth"
    ∷ codes "cshow" ∷ codes "kshow" ∷ codes "FontDirectory" ∷ codes "GlobalFontDirectory" ∷ codes "StandardEncoding"
    ∷ codes "ISOLatin1Encoding" ∷ codes "findencoding" ∷ codes "setcachedevice" ∷ codes "setcachedevice2"
    ∷ codes "setcharwidth" ∷ codes "eexec" ∷ codes "internaldict" ∷ codes "settrapparams" ∷ codes "currenttrapparams"
    ∷ codes "settrapzone" ∷ codes "setsystemparams" ∷ codes "currentsystemparams" ∷ codes "setuserparams"
    ∷ codes "currentuserparams" ∷ codes "setdevparams" ∷ codes "currentdevparams" ∷ codes "vmreclaim"
    ∷ codes "setvmthreshold" ∷ codes "vmstatus" ∷ codes "cachestatus" ∷ codes "setcachelimit" ∷ codes "setcacheparams"
    ∷ codes "currentcacheparams" ∷ codes "setucacheparams" ∷ codes "ucachestatus"
    ∷ []

-- an interpreter has the name in systemdict, and this machine doesn't
abbrev pub is_lacked : List ℕ → Bool
is_lacked key = list_any (bytes_eq key) lacked
